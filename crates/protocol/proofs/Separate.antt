-- What a hold is told depends on its own calls alone.
use Rattle.std.proofs.Common.{◌≡◌, ℕ, ◌+◌, ◌<◌, ◌≤◌, Bool, true, false, cond, eqb, ltb, ◌≢◌, List, [], ◌∷◌, ◌++◌, Some, None, Ok, Err, Option, Result, sym, refl, ap, ◌∙◌, ap₂, arith, eqb-true}
use mathlib.Core.Bool.{false≢true}
use Rattle.arithmetic.proofs.Cases.{clash}
use Rattle.protocol.specs.declared.refusal.Refusal.{Refusal}
use Rattle.protocol.specs.declared.call.Name.{Name}
use Rattle.protocol.specs.declared.call.Request.{Request}
use Rattle.protocol.specs.declared.call.Call.{Call}
use Rattle.protocol.specs.declared.call.Call.TheVariants.{Tick, Take, Ask}
use Rattle.protocol.specs.declared.call.Reply.{Reply}
use Rattle.protocol.specs.declared.call.Reply.TheVariants.{Done, Took, Stepped, Shown, Told}
use Rattle.protocol.specs.Operands.{Make}
use Rattle.protocol.specs.History.{same, History, gave, begins, Taken}
use Rattle.protocol.specs.History.Taken.{now, before}
use Rattle.protocol.specs.Bank.{Bank, answer, after, bars, expires}
use Rattle.protocol.specs.Promise.{concerns, names, own, told_to, calls, answers, bank_after, history}
use Rattle.protocol.proofs.Views.{Track, track, evolve, tell, own_step, other_step, apart→false, both_true}
use Rattle.protocol.proofs.Views.View.{out}

-- ---- the clock and the view, and the answers, by the own calls

abbrev tracked : Make → Name → List Call → Track
tracked m h [] = record { time = 0; view = out }
tracked m h (c ∷ cs) = evolve m h c (tracked m h cs)

abbrev telling : Make → Name → List Call → List (Result Reply Refusal)
telling m h [] = []
telling m h (c ∷ cs) = tell m h c (tracked m h cs) ∷ telling m h cs

record ByOwn (m : Make) (h : Name) (b : Bank) (es : History) : Type 0 where
  tracks : track b h ≡ tracked m h (calls (own h es))
  says : answers (own h es) ≡ telling m h (calls (own h es))

by_own : (m : Make) (h : Name) (cs : List Call) → ByOwn m h (bank_after m cs) (history m cs)
by_own m h [] = record { tracks = refl; says = refl }
by_own m h (c ∷ cs) = go (concerns h c (answer m (bank_after m cs) c)) refl (by_own m h cs)
  where
    go : (x : Bool) → concerns h c (answer m (bank_after m cs) c) ≡ x → ByOwn m h (bank_after m cs) (history m cs) → ByOwn m h (bank_after m (c ∷ cs)) (history m (c ∷ cs))
    go true e ih =
        let s = own_step m (bank_after m cs) h c e in
        record {
          tracks = rw e (s.moves ∙ ap (evolve m h c) ih.tracks);
          says = rw e (ap₂ (λ (a : Result Reply Refusal) (rest : List (Result Reply Refusal)). a ∷ rest) (s.tells ∙ ap (tell m h c) ih.tracks) ih.says);
        }
    go false e ih = record { tracks = rw e (other_step m (bank_after m cs) h c e ∙ ih.tracks); says = rw e ih.says }

pub separate : (m : Make) (cs₁ cs₂ : List Call) (h : Name) → calls (own h (history m cs₁)) ≡ calls (own h (history m cs₂)) → answers (own h (history m cs₁)) ≡ answers (own h (history m cs₂))
separate m cs₁ cs₂ h e = (by_own m h cs₁).says ∙ ap (telling m h) e ∙ sym (by_own m h cs₂).says

-- ---- serials

pub next_grows : (m : Make) (b : Bank) (c : Call) → b.next ≤ (after m b c).next
next_grows m b (Tick t) = elim (ltb t b.time) as (λ x. b.next ≤ (cond x b (record { time = t; next = b.next; lane = λ k. expires t (b.lane k) })).next) [ true ↦ omega arith | false ↦ omega arith ]
next_grows m b (Take lane ticks) = go (bars b lane ticks) refl
  where
    go : (x : Option Refusal) → bars b lane ticks ≡ x → b.next ≤ (after m b (Take lane ticks)).next
    go None f = rw f (omega arith)
    go (Some r) f = rw f (omega arith)
next_grows m b (Ask g r) = omega arith

gave_serial : (serial : ℕ) (a : Result Reply Refusal) → gave serial a ≡ true → a ≡ Ok (Took serial)
gave_serial serial (Ok Done) e = absurd (false≢true e)
gave_serial serial (Ok (Took n)) e = ap (λ k. Ok (Took k)) (eqb-true n serial e)
gave_serial serial (Ok (Stepped n)) e = absurd (false≢true e)
gave_serial serial (Ok (Shown n s)) e = absurd (false≢true e)
gave_serial serial (Ok (Told a)) e = absurd (false≢true e)
gave_serial serial (Err r) e = absurd (false≢true e)

-- a call that begins a hold is a take of its lane, answered by its serial
pub record Gives (h : Name) (c : Call) (a : Result Reply Refusal) : Type 0 where
  pub ticks : ℕ
  pub asked : c ≡ Take h.lane ticks
  pub given : a ≡ Ok (Took h.serial)

pub gives : (h : Name) (c : Call) (a : Result Reply Refusal) → begins h c a ≡ true → Gives h c a
gives h (Tick t) a e = absurd (false≢true e)
gives h (Take lane ticks) a e =
    let both = both_true (eqb lane h.lane) (gave h.serial a) e in
    record { ticks = ticks; asked = ap (λ x. Take x ticks) (eqb-true lane h.lane both.0); given = gave_serial h.serial a both.1 }
gives h (Ask g r) a e = absurd (false≢true e)

-- a take that gives a serial gives the next one, and is then past it
given_next : (m : Make) (b : Bank) (lane ticks serial : ℕ) → answer m b (Take lane ticks) ≡ Ok (Took serial) → (b.next ≡ serial) × ((after m b (Take lane ticks)).next ≡ serial + 1)
given_next m b lane ticks serial e = go (bars b lane ticks) refl
  where
    go : (x : Option Refusal) → bars b lane ticks ≡ x → (b.next ≡ serial) × ((after m b (Take lane ticks)).next ≡ serial + 1)
    go None f =
        let e' : Ok (Took b.next) ≡ Ok (Took serial) = rw f at e in
        let p : b.next ≡ serial = cc in
        (p, rw (f, p))
    go (Some r) f =
        let e' : Err r ≡ Ok (Took serial) = rw f at e in
        clash (cc)

pub gives_next : (m : Make) (b : Bank) (h : Name) (c : Call) → begins h c (answer m b c) ≡ true → (b.next ≡ h.serial) × (h.serial < (after m b c).next)
gives_next m b h c e =
    let g = gives h c (answer m b c) e in
    let g' = given_next m b h.lane g.ticks h.serial (rw g.asked at g.given) in
    let p : (after m b c).next ≡ h.serial + 1 = rw g.asked g'.1 in
    (g'.0, omega arith)

pub handed_out : (m : Make) (h : Name) (cs : List Call) → Taken h (history m cs) → h.serial < (bank_after m cs).next
handed_out m h [] t = elim t [ ]
handed_out m h (c ∷ cs) t = go t (handed_out m h cs)
  where
    go : Taken h (history m (c ∷ cs)) → (Taken h (history m cs) → h.serial < (bank_after m cs).next) → h.serial < (after m (bank_after m cs) c).next
    go (now g) ih = (gives_next m (bank_after m cs) h c g).1
    go (before t') ih = let p = ih t' in omega (arith, next_grows m (bank_after m cs) c)

-- ---- two banks alike to a hold that was handed out in both

record Alike (h : Name) (b₁ b₂ : Bank) : Type 0 where
  same : track b₁ h ≡ track b₂ h
  old₁ : h.serial < b₁.next
  old₂ : h.serial < b₂.next

-- a take that is not the hold's
not_given : (m : Make) (b : Bank) (h : Name) (lane ticks : ℕ) → h.serial < b.next → concerns h (Take lane ticks) (answer m b (Take lane ticks)) ≡ false
not_given m b h lane ticks old = go (concerns h (Take lane ticks) (answer m b (Take lane ticks))) refl
  where
    go : (x : Bool) → concerns h (Take lane ticks) (answer m b (Take lane ticks)) ≡ x → concerns h (Take lane ticks) (answer m b (Take lane ticks)) ≡ false
    go true e =
        let p : b.next ≡ h.serial = (gives_next m b h (Take lane ticks) e).0 in
        absurd (omega arith)
    go false e = e

alike_moves : (m : Make) (h : Name) (b₁ b₂ : Bank) → Alike h b₁ b₂ → (c : Call) → track (after m b₁ c) h ≡ track (after m b₂ c) h
alike_moves m h b₁ b₂ l (Tick t) = (own_step m b₁ h (Tick t) refl).moves ∙ ap (evolve m h (Tick t)) l.same ∙ sym (own_step m b₂ h (Tick t) refl).moves
alike_moves m h b₁ b₂ l (Take lane ticks) =
    other_step m b₁ h (Take lane ticks) (not_given m b₁ h lane ticks l.old₁) ∙ l.same ∙ sym (other_step m b₂ h (Take lane ticks) (not_given m b₂ h lane ticks l.old₂))
alike_moves m h b₁ b₂ l (Ask g r) = go (same g h) refl
  where
    go : (x : Bool) → same g h ≡ x → track (after m b₁ (Ask g r)) h ≡ track (after m b₂ (Ask g r)) h
    go true e = (own_step m b₁ h (Ask g r) e).moves ∙ ap (evolve m h (Ask g r)) l.same ∙ sym (own_step m b₂ h (Ask g r) e).moves
    go false e = other_step m b₁ h (Ask g r) e ∙ l.same ∙ sym (other_step m b₂ h (Ask g r) e)

alike_step : (m : Make) (h : Name) (b₁ b₂ : Bank) → Alike h b₁ b₂ → (c : Call) → Alike h (after m b₁ c) (after m b₂ c)
alike_step m h b₁ b₂ l c =
    record {
      same = alike_moves m h b₁ b₂ l c;
      old₁ = let p = l.old₁ in omega (arith, next_grows m b₁ c);
      old₂ = let p = l.old₂ in omega (arith, next_grows m b₂ c);
    }

alike_tells : (m : Make) (h : Name) (b₁ b₂ : Bank) → Alike h b₁ b₂ → (c : Call) → names h c ≡ true → answer m b₁ c ≡ answer m b₂ c
alike_tells m h b₁ b₂ l (Tick t) e = absurd (false≢true e)
alike_tells m h b₁ b₂ l (Take lane ticks) e = absurd (false≢true e)
alike_tells m h b₁ b₂ l (Ask g r) e = (own_step m b₁ h (Ask g r) e).tells ∙ ap (tell m h (Ask g r)) l.same ∙ sym (own_step m b₂ h (Ask g r) e).tells

record ToldAlike (m : Make) (h : Name) (cs₁ cs₂ : List Call) : Type 0 where
  banks : Alike h (bank_after m cs₁) (bank_after m cs₂)
  tellings : answers (told_to h (history m cs₁)) ≡ answers (told_to h (history m cs₂))

told_alike : (m : Make) (h : Name) (cs₁ cs₂ : List Call) → ToldAlike m h cs₁ cs₂ → (later : List Call) → ToldAlike m h (later ++ cs₁) (later ++ cs₂)
told_alike m h cs₁ cs₂ l [] = l
told_alike m h cs₁ cs₂ l (c ∷ later) = go (told_alike m h cs₁ cs₂ l later) (names h c) refl
  where
    go : ToldAlike m h (later ++ cs₁) (later ++ cs₂) → (x : Bool) → names h c ≡ x → ToldAlike m h ((c ∷ later) ++ cs₁) ((c ∷ later) ++ cs₂)
    go ih true e =
        record {
          banks = alike_step m h (bank_after m (later ++ cs₁)) (bank_after m (later ++ cs₂)) ih.banks c;
          tellings = rw e (ap₂ (λ (a : Result Reply Refusal) (rest : List (Result Reply Refusal)). a ∷ rest) (alike_tells m h (bank_after m (later ++ cs₁)) (bank_after m (later ++ cs₂)) ih.banks c e) ih.tellings);
        }
    go ih false e = record { banks = alike_step m h (bank_after m (later ++ cs₁)) (bank_after m (later ++ cs₂)) ih.banks c; tellings = rw e ih.tellings }

pub undisturbed : (m : Make) (cs later : List Call) (g h : Name) (r : Request) → Taken h (history m cs) → g ≢ h →
    answers (told_to h (history m (later ++ (Ask g r ∷ cs)))) ≡ answers (told_to h (history m (later ++ cs)))
undisturbed m cs later g h r t d =
    let e = apart→false g h d in
    let old = handed_out m h cs t in
    let start : ToldAlike m h (Ask g r ∷ cs) cs =
    record {
      banks = record { same = other_step m (bank_after m cs) h (Ask g r) e; old₁ = old; old₂ = old };
      tellings = rw e;
    } in
    (told_alike m h (Ask g r ∷ cs) cs start later).tellings
