use Rattle.std.proofs.Common.{◌≡◌, ◌-◌, length}
use Rattle.tree.proofs.Whole.{Written}
use Rattle.tree.proofs.writer.Listing.write.Given as goal

abbrev pub invariant-loop-level : goal.invariant-loop-level
invariant-loop-level l = record {
  written : Written l.self.codes.now l.self.height.levels (l.level - 1) l.fn.t l.upper.bytes.now l.upper.count;
  same_name : l.upper.bytes.ghost_name ≡ l.initial.upper.bytes.ghost_name;
  same_length : length l.upper.bytes.now ≡ length l.fn.t;
}
