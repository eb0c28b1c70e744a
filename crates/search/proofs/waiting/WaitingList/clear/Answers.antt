use Rattle.std.proofs.Common.{refl}
use Rattle.std.proofs.HeapSift as sifts
use Rattle.std.specs.Cmp.{back_total}
use Rattle.search.proofs.waiting.WaitingList.clear.Goals as goal

pub returns-clause-in_order : goal.returns-clause-in_order
returns-clause-in_order g c = sifts.empty (back_total g.met.T.Ord.total) _ refl
