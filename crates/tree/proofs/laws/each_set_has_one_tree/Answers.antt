use Rattle.tree.proofs.laws.each_set_has_one_tree.Goals as goal
use Rattle.tree.proofs.Levels as levels
use Rattle.tree.proofs.Written as written

pub returns : goal.returns
returns c = record {
  a_tree_reads_as_a_list = levels.reads_a_list;
  each_list_has_a_tree = written.written_reads_back;
  no_other_bits_read_so = levels.read_writes_back;
  same_cells_same_bits = levels.one_tree;
}
