use Rattle.tree.proofs.laws.rank_rule.Goals as goal
use Rattle.tree.proofs.Ranks as ranks
use Rattle.tree.proofs.Walks as walks

pub returns : goal.returns
returns c = record { block_under_a_one = ranks.rank_rule; each_bit_has_a_square = ranks.numbers_fit; going_down_is_exact = walks.walks_are_exact }
