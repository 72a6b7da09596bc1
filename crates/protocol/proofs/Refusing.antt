-- A refused call leaves a bank as it was.
use Rattle.std.proofs.Common.{◌≡◌, ℕ, Bool, true, false, eqb, ltb, Some, None, Option, sym, refl, true≢false, eqb-true}
use mathlib.Core.Path.{fun_ext}
use Rattle.selection.specs.declared.refusal.Refusal.{Refusal as OperandRefusal}
use Rattle.selection.specs.Operands as operands
use Rattle.single.specs.declared.answer.Answer.{Answer}
use Rattle.protocol.specs.declared.refusal.Refusal.{Refusal}
use Rattle.protocol.specs.declared.call.Request.{Request}
use Rattle.protocol.specs.declared.call.Request.TheVariants.{Load, Load32, Step, Look, Collect, Give}
use Rattle.protocol.specs.declared.call.Call.TheVariants.{Tick, Take, Ask}
use Rattle.protocol.specs.Operands.{Make, Operand}
use Rattle.protocol.specs.Operands.Operand.{fixed}
use Rattle.protocol.specs.History.{accepted}
use Rattle.protocol.specs.Jobs.{Job, told}
use Rattle.protocol.specs.Bank.{Lane, loading, collecting, serve, said, kept, replies, leaves, bars, at, after}
use Rattle.protocol.specs.Bank.Lane.{free, held}
use Rattle.protocol.specs.Promise.{RefusalsLeave}

-- a lane that is written as it was
pub same_lane : (i : ℕ) (f : Lane → Lane) (lanes : ℕ → Lane) → f (lanes i) ≡ lanes i → lanes ≡ at i f lanes
same_lane i f lanes e = fun_ext (λ k. go k (eqb k i) refl)
  where
    go : (k : ℕ) (x : Bool) → eqb k i ≡ x → lanes k ≡ at i f lanes k
    go k true q = rw q (rw (eqb-true k i q) (sym e))
    go k false q = rw q

module _ (m : Make) (s d : ℕ) where
  load_keeps : (o : Operand) (r : Option OperandRefusal) → accepted (said (loading m o r)) ≡ false → kept s d None (loading m o r) ≡ held s d None
  load_keeps o None e = absurd (true≢false e)
  load_keeps o (Some r) e = refl

  collect_keeps : (job : Job) (a : Option Answer) → accepted (said (collecting a)) ≡ false → kept s d (Some job) (collecting a) ≡ held s d (Some job)
  collect_keeps job None e = refl
  collect_keeps job (Some a) e = absurd (true≢false e)

  stopped_keeps : (job : Option Job) (r : Request) → accepted (said (serve m job r)) ≡ false → kept s d job (serve m job r) ≡ held s d job
  stopped_keeps None (Load K Q x) e = load_keeps (fixed K Q x) (operands.refusal K Q x) e
  stopped_keeps None (Load32 v) e = absurd (true≢false e)
  stopped_keeps None (Step n) e = refl
  stopped_keeps None Look e = refl
  stopped_keeps None (Collect mode) e = refl
  stopped_keeps None Give e = absurd (true≢false e)
  stopped_keeps (Some job) (Load K Q x) e = refl
  stopped_keeps (Some job) (Load32 v) e = refl
  stopped_keeps (Some job) (Step n) e = absurd (true≢false e)
  stopped_keeps (Some job) Look e = absurd (true≢false e)
  stopped_keeps (Some job) (Collect mode) e = collect_keeps job (told m mode job) e
  stopped_keeps (Some job) Give e = absurd (true≢false e)

lane_keeps : (m : Make) (serial : ℕ) (r : Request) (l : Lane) → accepted (replies m serial r l) ≡ false → leaves m serial r l ≡ l
lane_keeps m serial r free e = refl
lane_keeps m serial r (held owner d job) e = go (eqb owner serial) refl
  where
    go : (x : Bool) → eqb owner serial ≡ x → leaves m serial r (held owner d job) ≡ held owner d job
    go true p = let e' : accepted (said (serve m job r)) ≡ false = rw p at e in rw p (stopped_keeps m owner d job r e')
    go false p = rw p

pub refusals_leave : RefusalsLeave
refusals_leave m b (Tick t) e = go (ltb t b.time) refl
  where
    go : (x : Bool) → ltb t b.time ≡ x → after m b (Tick t) ≡ b
    go true p = rw p
    go false p = let e' : true ≡ false = rw p at e in absurd (true≢false e')
refusals_leave m b (Take lane ticks) e = go (bars b lane ticks) refl
  where
    go : (x : Option Refusal) → bars b lane ticks ≡ x → after m b (Take lane ticks) ≡ b
    go None p = let e' : true ≡ false = rw p at e in absurd (true≢false e')
    go (Some r) p = rw p
refusals_leave m b (Ask h r) e =
    let k = lane_keeps m h.serial r (b.lane h.lane) e in
    λ i. record { time = b.time; next = b.next; lane = sym (same_lane h.lane (leaves m h.serial r) b.lane k) i }
