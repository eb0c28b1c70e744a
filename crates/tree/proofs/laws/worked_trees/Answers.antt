use Rattle.tree.proofs.laws.worked_trees.Goals as goal
use Rattle.tree.proofs.Worked as worked

pub returns : goal.returns
returns c = record {
  two_cells = worked.example;
  no_cell = worked.empty_example;
  one_level = worked.flat_example;
  not_valid = worked.refused_examples;
  opened = worked.opened_example;
  writable = worked.writable_example;
}
