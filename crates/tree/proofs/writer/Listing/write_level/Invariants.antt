use Rattle.std.proofs.Common.{◌≡◌, length}
use Rattle.tree.proofs.Walked.{Walked}
use Rattle.tree.proofs.writer.Listing.write_level.Given as goal

abbrev pub invariant-loop-pair : goal.invariant-loop-pair
invariant-loop-pair l = record {
  walked : Walked l.fn.level l.self.codes.now l.initial.out.bytes.now l.initial.out.count l.pair-iterator l.block l.out.count l.out.bytes.now;
  same_name : l.out.bytes.ghost_name ≡ l.initial.out.bytes.ghost_name;
  same_length : length l.out.bytes.now ≡ length l.initial.out.bytes.now;
}
