use Rattle.std.proofs.Common.{◌≡◌, ◌<◌, ◌≤◌, length, None, ◌∙◌, arith}
use Rattle.protocol.specs.declared.call.Call.TheVariants.{Tick}
use Rattle.protocol.specs.Operands.{Make, make}
use Rattle.lanes.specs.Seen.{seen}
use Rattle.protocol.proofs.Playing.{further_by, over, stands_in_history}
use Rattle.bank.proofs.bank.Bank.play.Goals as goal

pub loop-play-preserved : goal.loop-play-preserved
loop-play-preserved g c =
    let i = c.loop-play.invariant in
    let here = c.loop-play.self in
    let start = c.args.self.now in
    let m : Make = make (g.S.Selector.model start.selector) (g.F.NumberForm.model start.form) in
    let n : Make = make (g.S.Selector.model here.selector) (g.F.NumberForm.model here.form) in
    let same : n ≡ m = λ j. make (g.S.Selector.model (i.0.0 j)) (g.F.NumberForm.model (i.0.1 j)) in
    let inside : c.loop-play.play-index < length c.loop-play.plays = omega (arith, c.loop-play.auto.plays, c.loop-play-test.true) in
    let e = c.answer-reply.ensures in (
      (e.make.0 ∙ i.0.0, e.make.1 ∙ i.0.1),
      further_by m n same (seen start.lanes) c.args.plays.now c.loop-play.play-index c.loop-play.plays (seen here.lanes) (seen c.answer-reply.new.self.lanes)
          (record { call = Tick 0; reply = None }) c.answer-reply.result inside e.answers e.leaves i.1,
    )

pub returns : goal.returns
returns g c =
    let i = c.loop-play.invariant in
    let start = c.args.self.now in
    let m : Make = make (g.S.Selector.model start.selector) (g.F.NumberForm.model start.form) in
    let past : length c.loop-play.plays ≤ c.loop-play.play-index = omega (arith, c.loop-play.auto.plays, c.loop-play-test.false) in
    let o = over m (seen start.lanes) c.args.plays.now c.loop-play.play-index c.loop-play.plays (seen c.loop-play.self.lanes) past i.1 in
    record { answers = o.0; leaves = o.1; history = stands_in_history m (seen start.lanes) c.args.plays.now c.loop-play.plays (seen c.loop-play.self.lanes) o.0 o.1; make = i.0 }
