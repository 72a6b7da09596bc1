-- What a hold finds in its lane, and how a call changes that.
use Rattle.std.proofs.Common.{◌≡◌, ℕ, ◌+◌, ◌^◌, Bool, true, false, cond, ◌&&◌, ◌||◌, eqb, ltb, leb, ◌⊎◌, Some, None, Ok, Err, Option, Result, sym, refl, ap, subst, inl, inr, ⊎_elim, true≢false, arith, eqb-true}
use mathlib.Core.Bool.{false≢true}
use Rattle.std.proofs.lemmas.Bool.Decides.{nat_tests as tells}
use Rattle.arithmetic.proofs.Cases.{clash}
use Rattle.protocol.specs.declared.refusal.Refusal.{Refusal}
use Rattle.protocol.specs.declared.refusal.Refusal.TheVariants.{NoSuchLane, LaneHeld, Ticks, SerialsUsedUp, NotInForce, BelowClock}
use Rattle.protocol.specs.declared.call.Name.{Name}
use Rattle.protocol.specs.declared.call.Request.{Request}
use Rattle.protocol.specs.declared.call.Call.{Call}
use Rattle.protocol.specs.declared.call.Call.TheVariants.{Tick, Take, Ask}
use Rattle.protocol.specs.declared.call.Reply.{Reply}
use Rattle.protocol.specs.declared.call.Reply.TheVariants.{Done, Took}
use Rattle.protocol.specs.Operands.{Make}
use Rattle.protocol.specs.History.{same}
use Rattle.protocol.specs.Jobs.{Job}
use Rattle.protocol.specs.Bank.{Lane, Bank, Served, serve, said, kept, replies, leaves, expires, is_held, bars, put, answer, after}
use Rattle.protocol.specs.Bank.Lane.{free, held}
use Rattle.protocol.specs.Bank.Served.{stopped, goes_on, frees}
use Rattle.protocol.specs.Promise.{concerns}

pub data View : Type 0 where
  out : View
  within : ℕ → Option Job → View

abbrev pub seen : ℕ → Lane → View
seen serial free = out
seen serial (held owner deadline job) = cond (eqb owner serial) (within deadline job) out

abbrev pub view : Bank → Name → View
view b h = seen h.serial (b.lane h.lane)

-- ---- what a request does to a view

abbrev pub reply : Make → View → Request → Result Reply Refusal
reply m out r = Err NotInForce
reply m (within d job) r = said (serve m job r)

abbrev pub kept_view : ℕ → Option Job → Served → View
kept_view d job (stopped n) = within d job
kept_view d job (goes_on a next) = within d (Some next)
kept_view d job (frees a) = out

abbrev pub asked : Make → View → Request → View
asked m out r = out
asked m (within d job) r = kept_view d job (serve m job r)

abbrev pub expired : ℕ → View → View
expired t out = out
expired t (within d job) = cond (leb d t) out (within d job)

pub either : (t : Bool) → (t ≡ true) ⊎ (t ≡ false)
either true = inl refl
either false = inr refl

pub lane_replies : (m : Make) (serial : ℕ) (r : Request) (l : Lane) → replies m serial r l ≡ reply m (seen serial l) r
lane_replies m serial r free = refl
lane_replies m serial r (held owner d job) =
    elim (eqb owner serial) as (λ t. cond t (said (serve m job r)) (Err NotInForce) ≡ reply m (cond t (within d job) out) r) [ true ↦ refl | false ↦ refl ]

seen_kept : (owner serial d : ℕ) (job : Option Job) → eqb owner serial ≡ true → (v : Served) → seen serial (kept owner d job v) ≡ kept_view d job v
seen_kept owner serial d job e (stopped n) = rw e
seen_kept owner serial d job e (goes_on a next) = rw e
seen_kept owner serial d job e (frees a) = refl

unseen_kept : (owner serial d : ℕ) (job : Option Job) → eqb owner serial ≡ false → (v : Served) → seen serial (kept owner d job v) ≡ out
unseen_kept owner serial d job e (stopped n) = rw e
unseen_kept owner serial d job e (goes_on a next) = rw e
unseen_kept owner serial d job e (frees a) = refl

pub lane_asked : (m : Make) (serial : ℕ) (r : Request) (l : Lane) → seen serial (leaves m serial r l) ≡ asked m (seen serial l) r
lane_asked m serial r free = refl
lane_asked m serial r (held owner d job) = go (eqb owner serial) refl
  where
    go : (t : Bool) → eqb owner serial ≡ t → seen serial (leaves m serial r (held owner d job)) ≡ asked m (seen serial (held owner d job)) r
    go true e = rw e (seen_kept owner serial d job e (serve m job r))
    go false e = rw (e, e)

pub lane_spared : (m : Make) (serial other : ℕ) (r : Request) (l : Lane) → eqb other serial ≡ false → seen serial (leaves m other r l) ≡ seen serial l
lane_spared m serial other r free e = refl
lane_spared m serial other r (held owner d job) e = go (eqb owner other) refl
  where
    go : (t : Bool) → eqb owner other ≡ t → seen serial (leaves m other r (held owner d job)) ≡ seen serial (held owner d job)
    go true f =
        let g : eqb owner serial ≡ false = grind (arith, tells) in
        rw (f, g) (unseen_kept owner serial d job g (serve m job r))
    go false f = rw f

pub lane_expired : (t serial : ℕ) (l : Lane) → seen serial (expires t l) ≡ expired t (seen serial l)
lane_expired t serial free = refl
lane_expired t serial (held owner d job) = go (leb d t) refl (eqb owner serial) refl
  where
    go : (x : Bool) → leb d t ≡ x → (y : Bool) → eqb owner serial ≡ y → seen serial (expires t (held owner d job)) ≡ expired t (seen serial (held owner d job))
    go true e true f = rw (e, f, e)
    go true e false f = rw (e, f)
    go false e true f = rw (e, f, e)
    go false e false f = rw (e, f)

-- ---- holds

pub same→≡ : (g h : Name) → same g h ≡ true → g ≡ h
same→≡ g h e =
    let p : g.lane ≡ h.lane = grind (arith, tells) in
    let q : g.serial ≡ h.serial = grind (arith, tells) in
    λ i. record { lane = p i; serial = q i }

pub eqb_self : (n : ℕ) → eqb n n ≡ true
eqb_self n = grind (arith, tells)

pub same_self : (h : Name) → same h h ≡ true
same_self h = grind (arith, tells)

pub apart→false : (g h : Name) → (g ≡ h → ⊥) → same g h ≡ false
apart→false g h f = ⊎_elim (λ (e : same g h ≡ true). absurd (f (same→≡ g h e))) (λ (e : same g h ≡ false). e) (either (same g h))

-- a take that passes its checks finds its lane free
barred : (p q r s : Bool) → cond p (Some NoSuchLane) (cond q (Some LaneHeld) (cond r (Some Ticks) (cond s (Some SerialsUsedUp) None))) ≡ None → q ≡ false
barred true q r s e = clash (cc)
barred false true r s e = clash (cc)
barred false false r s e = refl

pub passes_free : (b : Bank) (lane ticks : ℕ) → bars b lane ticks ≡ None → is_held (b.lane lane) ≡ false
passes_free b lane ticks e =
    barred (ltb 7 lane) (is_held (b.lane lane)) (eqb ticks 0 || leb (2 ^ 32) (b.time + ticks)) (leb (2 ^ 32) b.next) e

pub free_unseen : (serial : ℕ) (l : Lane) → is_held l ≡ false → seen serial l ≡ out
free_unseen serial free e = refl
free_unseen serial (held owner d job) e = absurd (true≢false e)

-- ---- the clock and the view of a hold, and how its own calls change them

pub record Track : Type 0 where
  pub time : ℕ
  pub view : View

abbrev pub track : Bank → Name → Track
track b h = record { time = b.time; view = view b h }

abbrev pub evolve : Make → Name → Call → Track → Track
evolve m h (Tick t) k = cond (ltb t k.time) k (record { time = t; view = expired t k.view })
evolve m h (Take lane ticks) k = record { time = k.time; view = within (k.time + ticks) None }
evolve m h (Ask g r) k = record { time = k.time; view = asked m k.view r }

abbrev pub tell : Make → Name → Call → Track → Result Reply Refusal
tell m h (Tick t) k = cond (ltb t k.time) (Err BelowClock) (Ok Done)
tell m h (Take lane ticks) k = Ok (Took h.serial)
tell m h (Ask g r) k = reply m k.view r

pub record OwnStep (m : Make) (b : Bank) (h : Name) (c : Call) : Type 0 where
  pub moves : track (after m b c) h ≡ evolve m h c (track b h)
  pub tells : answer m b c ≡ tell m h c (track b h)

tick_step : (m : Make) (b : Bank) (h : Name) (t : ℕ) → OwnStep m b h (Tick t)
tick_step m b h t =
    record {
      moves = elim (ltb t b.time) as (λ x. track (cond x b (record { time = t; next = b.next; lane = λ k. expires t (b.lane k) })) h ≡ cond x (track b h) (record { time = t; view = expired t (view b h) })) [
        | true ↦ refl
        | false ↦ λ i. record { time = t; view = lane_expired t h.serial (b.lane h.lane) i }
      ];
      tells = refl;
    }

pub both_true : (x y : Bool) → (x && y) ≡ true → (x ≡ true) × (y ≡ true)
both_true true true e = (refl, refl)
both_true true false e = absurd (false≢true e)
both_true false y e = absurd (false≢true e)

pub and_no : (x : Bool) → (x && false) ≡ true → ⊥
and_no true e = false≢true e
and_no false e = false≢true e

pub eqb_turn : (m n : ℕ) → eqb m n ≡ eqb n m
eqb_turn m n = grind (arith, tells)

taken_view : (b : Bank) (h : Name) (lane ticks : ℕ) → eqb lane h.lane ≡ true → eqb b.next h.serial ≡ true →
    track (put b lane ticks) h ≡ record { time = b.time; view = within (b.time + ticks) None }
taken_view b h lane ticks p q = rw (eqb_turn h.lane lane, p, q)

spared_view : (b : Bank) (h : Name) (lane ticks : ℕ) → is_held (b.lane lane) ≡ false → (eqb lane h.lane && eqb b.next h.serial) ≡ false →
    track (put b lane ticks) h ≡ track b h
spared_view b h lane ticks f e = go (eqb lane h.lane) refl
  where
    go : (x : Bool) → eqb lane h.lane ≡ x → track (put b lane ticks) h ≡ track b h
    go true p =
        let q : eqb b.next h.serial ≡ false = rw p at e in
        let free_at : seen h.serial (b.lane h.lane) ≡ out = rw (eqb-true lane h.lane p) at (free_unseen h.serial (b.lane lane) f) in
        rw (eqb_turn h.lane lane, p, q, free_at)
    go false p = rw (eqb_turn h.lane lane, p)

take_step : (m : Make) (b : Bank) (h : Name) (lane ticks : ℕ) → concerns h (Take lane ticks) (answer m b (Take lane ticks)) ≡ true → OwnStep m b h (Take lane ticks)
take_step m b h lane ticks e = go (bars b lane ticks) refl
  where
    go : (x : Option Refusal) → bars b lane ticks ≡ x → OwnStep m b h (Take lane ticks)
    go None f =
        let both = both_true (eqb lane h.lane) (eqb b.next h.serial) (rw f at e) in
        record { moves = rw f (taken_view b h lane ticks both.0 both.1); tells = rw f (ap (λ n. Ok (Took n)) (eqb-true b.next h.serial both.1)) }
    go (Some r) f = absurd (and_no (eqb lane h.lane) (rw f at e))

ask_step : (m : Make) (b : Bank) (h : Name) (g : Name) (r : Request) → same g h ≡ true → OwnStep m b h (Ask g r)
ask_step m b h g r e = subst (λ x. OwnStep m b h (Ask x r)) (sym (same→≡ g h e)) at_home
  where
    at_home : OwnStep m b h (Ask h r)
    at_home =
        record {
          moves = rw (eqb_self h.lane) (λ i. record { time = b.time; view = lane_asked m h.serial r (b.lane h.lane) i });
          tells = lane_replies m h.serial r (b.lane h.lane);
        }

pub own_step : (m : Make) (b : Bank) (h : Name) (c : Call) → concerns h c (answer m b c) ≡ true → OwnStep m b h c
own_step m b h (Tick t) e = tick_step m b h t
own_step m b h (Take lane ticks) e = take_step m b h lane ticks e
own_step m b h (Ask g r) e = ask_step m b h g r e

-- any other call changes neither
pub other_step : (m : Make) (b : Bank) (h : Name) (c : Call) → concerns h c (answer m b c) ≡ false → track (after m b c) h ≡ track b h
other_step m b h (Tick t) e = absurd (true≢false e)
other_step m b h (Take lane ticks) e = go (bars b lane ticks) refl
  where
    go : (x : Option Refusal) → bars b lane ticks ≡ x → track (after m b (Take lane ticks)) h ≡ track b h
    go None f = rw f (spared_view b h lane ticks (passes_free b lane ticks f) (rw f at e))
    go (Some r) f = rw f
other_step m b h (Ask g r) e = go (eqb h.lane g.lane) refl
  where
    go : (x : Bool) → eqb h.lane g.lane ≡ x → track (after m b (Ask g r)) h ≡ track b h
    go true p =
        let q : eqb g.serial h.serial ≡ false = rw (eqb_turn g.lane h.lane, p) at e in
        rw p (λ i. record { time = b.time; view = lane_spared m h.serial g.serial r (b.lane h.lane) q i })
    go false p = rw p
