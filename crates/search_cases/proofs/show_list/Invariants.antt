use Rattle.std.proofs.Common.{length}
use Rattle.search.specs.WaitingLists.{waiting}
use Rattle.search_cases.proofs.show_list.Given as goal

abbrev pub decreases-loop-x-2 : goal.decreases-loop-x-2
decreases-loop-x-2 l = length (waiting l.list)
