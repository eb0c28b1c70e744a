use Rattle.std.proofs.Common.{◌≡◌, ℕ, [], get_or, take, drop, sym, refl, rules}
use lib.ListN.{take-append-drop}
use Rattle.scan.proofs.Rounds.{begins, takes}
use Rattle.std.proofs.lemmas.Bool.Decides.{not_from_Decides}
use Rattle.std.specs.List.{Contains}
use Rattle.board.specs.Distances.{distance}
use Rattle.board.specs.Findings.{code_of}
use Rattle.board.specs.Lists.{Has}
use Rattle.board.specs.declared.finding.Finding.{Finding}
use Rattle.scan.specs.Rounds.{to_come}
use Rattle.scan.proofs.Decoded.{coded}
use Rattle.scan.proofs.Loops.{IsWithin, Meeting, meeting_none, meeting_taken, meeting_kept, low_kept, low_taken}
use Rattle.scan.proofs.worst.worst.Goals as goal

pub loop-other-init : goal.loop-other-init
loop-other-init g c =
    let b = c.args.b.now in
    let coming = to_come c.into_iter-other-iterator.result in
    let start = c.partition_point.result in
    let all : (q : ℕ) → (Has b q → Contains coming q) × (Contains coming q → Has b q) =
    begins b (take start b) (drop start b) coming (sym (take-append-drop start b)) (rw c.into_iter-other-iterator.ensures.into_iter_gives c.of-other-items.ensures.from_here_and_around) in
    record { can = tt; finite = tt; meeting = meeting_none (distance (g.M.Measure.amount c.args.m.now)) b coming (code_of c.from_code-film.result) c.film.low all }

pub film-preserved-then-is_some_and : goal.film-preserved-then-is_some_and
film-preserved-then-is_some_and g c =
    let f = g.M.Measure.amount c.args.m.now in
    let a = c.args.a.now in
    let i = c.film.code-index in
    let x = c.in-Some.other.now in
    let film = coded (get_or a i 0) c.from_code-film.result c.from_code-film.ensures.column c.from_code-film.ensures.row in
    let drawing = coded x c.from_code-drawing.result c.from_code-drawing.ensures.column c.from_code-drawing.ensures.row in
    let e : c.distance.result ≡ distance f (get_or a i 0) x = rw (← film, ← drawing) c.distance.ensures.value in
    let within : IsWithin (distance f) c.film.low c.distance.result = search rules in
    let took = takes c.loop-other.other-iterator c.next.new.self c.in-Some.other c.in-Some.ensures.steps in
    low_kept (distance f) a c.args.b.now i c.distance.result x c.film.low c.requires.rising c.film-test.true (c.loop-other.invariant.meeting.of_drawing x took.held) c.film.invariant within e

pub loop-other-preserved-then-nearer : goal.loop-other-preserved-then-nearer
loop-other-preserved-then-nearer g c =
    let f = g.M.Measure.amount c.args.m.now in
    let x = c.in-Some.other.now in
    let drawing = coded x c.from_code-drawing.result c.from_code-drawing.ensures.column c.from_code-drawing.ensures.row in
    let found : Finding = record { distance = c.distance.result; film = c.from_code-film.result; drawing = c.from_code-drawing.result } in
    record {
      can = tt;
      finite = tt;
      meeting =
          meeting_taken (distance f) c.args.b.now _ (to_come c.next.new.self) (code_of c.from_code-film.result) x found c.film.low c.loop-other.best
          c.loop-other.invariant.meeting (takes c.loop-other.other-iterator c.next.new.self c.in-Some.other c.in-Some.ensures.steps) (c.distance.ensures.value, refl) drawing (search rules) (c.nearer.ensures.0 c.if-nearer.true);
    }

pub loop-other-preserved : goal.loop-other-preserved
loop-other-preserved g c =
    let f = g.M.Measure.amount c.args.m.now in
    let x = c.in-Some.other.now in
    let drawing = coded x c.from_code-drawing.result c.from_code-drawing.ensures.column c.from_code-drawing.ensures.row in
    let found : Finding = record { distance = c.distance.result; film = c.from_code-film.result; drawing = c.from_code-drawing.result } in
    record {
      can = tt;
      finite = tt;
      meeting =
          meeting_kept (distance f) c.args.b.now _ (to_come c.next.new.self) (code_of c.from_code-film.result) x found c.film.low c.loop-other.best
          c.loop-other.invariant.meeting (takes c.loop-other.other-iterator c.next.new.self c.in-Some.other c.in-Some.ensures.steps) (c.distance.ensures.value, refl) drawing (search rules) (not_from_Decides c.nearer.result c.nearer.ensures c.if-nearer.false);
    }

pub film-preserved : goal.film-preserved
film-preserved g c =
    let f = g.M.Measure.amount c.args.m.now in
    let a = c.args.a.now in
    let b = c.args.b.now in
    let film = coded (get_or a c.film.code-index 0) c.from_code-film.result c.from_code-film.ensures.column c.from_code-film.ensures.row in
    let ended = c.in-None.ensures.steps.1 in
    let meeting : Meeting (distance f) b [] (get_or a c.film.code-index 0) c.film.low c.loop-other.best = rw (← film, ← ended) c.loop-other.invariant.meeting in
    low_taken (distance f) a b c.film.code-index c.film.low c.loop-other.best c.film.invariant meeting
