use Rattle.std.proofs.Common.{arith}
use Rattle.search.proofs.Below.{never_behind}
use Rattle.comparison.proofs.Diving.{walked_stays, walked_tried}
use Rattle.comparison.proofs.trial.Trial.try_square.Goals as goal

pub returns : goal.returns
returns g c =
    let s = c.args.s in
    let on = c.requires.on_board in
    let met = c.walk.ensures.all_done (record { board = on; above = omega arith; in_order = λ q i j. absurd (never_behind 0 q s on i j) }) in
    record {
      stays = walked_stays g.A.Store.answers g.B.Store.answers g.M.Measure.amount _ c.walk.new.visitor met;
      tried = walked_tried g.A.Store.answers g.B.Store.answers g.M.Measure.amount _ c.walk.new.visitor met;
    }
