-- How a hold stands in its lane, by its history.
use Rattle.std.proofs.Common.{◌≡◌, ℕ, ◌+◌, ◌-◌, ◌≤◌, min, Bool, true, false, cond, ◌&&◌, eqb, ltb, leb, ◌⊎◌, List, [], ◌∷◌, Some, None, Ok, Err, Option, Result, sym, refl, ap, ◌∙◌, subst, inl, inr, true≢false, zero-add, arith}
use mathlib.Core.Bool.{false≢true}
use Rattle.selection.specs.declared.refusal.Refusal.{Refusal as OperandRefusal}
use Rattle.selection.specs.Operands as operands
use Rattle.single.specs.declared.mode.Mode.{Mode}
use Rattle.single.specs.declared.answer.Answer.{Answer}
use Rattle.arithmetic.proofs.Cases.{clash}
use Rattle.protocol.specs.declared.refusal.Refusal.{Refusal}
use Rattle.protocol.specs.declared.refusal.Refusal.TheVariants.{Operand as BadOperand, NotInForce, AlreadyLoaded, NoJob, DigitsLeft, BelowClock}
use Rattle.protocol.specs.declared.call.Name.{Name}
use Rattle.protocol.specs.declared.call.Request.{Request}
use Rattle.protocol.specs.declared.call.Request.TheVariants.{Load, Load32, Step, Look, Collect, Give}
use Rattle.protocol.specs.declared.call.Call.{Call}
use Rattle.protocol.specs.declared.call.Call.TheVariants.{Tick, Take, Ask}
use Rattle.protocol.specs.declared.call.Reply.{Reply}
use Rattle.protocol.specs.declared.call.Reply.TheVariants.{Done, Stepped, Told}
use Rattle.protocol.specs.Operands.{Make, Lawful, Operand, digits}
use Rattle.protocol.specs.Operands.Operand.{fixed, single}
use Rattle.protocol.specs.History.{same, accepted, Event, History, sets, clock, begins, lease, is_last, ends, operand_of, loads, count_of, steps, InForce, Loaded}
use Rattle.protocol.specs.History.InForce.{taken, lasts}
use Rattle.protocol.specs.History.Loaded.{loaded, since}
use Rattle.protocol.specs.Jobs.{Job, begun, turns, left, told}
use Rattle.protocol.specs.Bank.{Bank, Served, serve, said, loading, collecting, answer, after, bars}
use Rattle.protocol.specs.Promise.{concerns, bank_after, history}
use Rattle.protocol.proofs.Views.{View, track, evolve, own_step, other_step, same→≡, same_self, reply, asked, expired, kept_view, view}
use Rattle.protocol.proofs.Views.View.{out, within}
use Rattle.protocol.proofs.Separate.{next_grows, gives_next}
use Rattle.protocol.proofs.Working.{Admitted, admits, goes, turns_add}
use Rattle.protocol.proofs.Working.Admitted.{any}

-- ---- what one more event says

abbrev pub event : Call → Result Reply Refusal → Event
event c a = record { call = c; reply = a }

-- a hold's end, and the digits that it asks for, by one event
abbrev ending : Name → ℕ → Event → Bool
ending h d e = accepted e.reply && ends h d e.call

abbrev asking : Name → Event → ℕ
asking h e = cond (accepted e.reply) (steps h e.call) 0

abbrev ForceCases : Name → ℕ → Event → History → Type 0
ForceCases h d e es = ((begins h e.call e.reply ≡ true) × (d ≡ clock es + lease e.call)) ⊎ (InForce h d es × (ending h d e ≡ false))

force_inv : {h : Name} {d : ℕ} {e : Event} {es : History} → InForce h d (e ∷ es) → ForceCases h d e es
force_inv (taken g) = inl (g, refl)
force_inv (lasts f n) = inr (f, n)

abbrev pub LoadCases : Name → Operand → ℕ → Event → History → Type 0
LoadCases h o n e es = ((accepted e.reply ≡ true) × (loads h e.call ≡ Some o) × (n ≡ 0)) ⊎ ((k : ℕ) × Loaded h o k es × (n ≡ asking h e + k))

pub load_inv : {h : Name} {o : Operand} {n : ℕ} {e : Event} {es : History} → Loaded h o n (e ∷ es) → LoadCases h o n e es
load_inv (loaded a l) = inl (a, l, refl)
load_inv (since {n = k} l) = inr (k, l, refl)

-- an event that starts nothing for the hold h
record Quiet (h : Name) (e : Event) : Type 0 where
  no_gift : begins h e.call e.reply ≡ true → ⊥
  no_count : asking h e ≡ 0
  no_load : (o : Operand) → accepted e.reply ≡ true → loads h e.call ≡ Some o → ⊥

module _ {h : Name} {e : Event} {es : History} (q : Quiet h e) where
  force_back : {d : ℕ} → InForce h d (e ∷ es) → InForce h d es × (ending h d e ≡ false)
  force_back {d} f = go (force_inv f)
    where
      go : ForceCases h d e es → InForce h d es × (ending h d e ≡ false)
      go (inl g) = absurd (q.no_gift g.0)
      go (inr r) = r

  load_keep : {o : Operand} {n : ℕ} → Loaded h o n es → Loaded h o n (e ∷ es)
  load_keep {o} {n} l = subst (λ k. Loaded h o k (e ∷ es)) (ap (λ x. x + n) q.no_count ∙ zero-add n) (since l)

  load_back : {o : Operand} {n : ℕ} → Loaded h o n (e ∷ es) → Loaded h o n es
  load_back {o} {n} l = go (load_inv l)
    where
      go : LoadCases h o n e es → Loaded h o n es
      go (inl t) = absurd (q.no_load o t.0 t.1)
      go (inr t) = subst (λ k. Loaded h o k es) (sym (t.2 ∙ ap (λ x. x + t.0) q.no_count ∙ zero-add t.0)) t.1

-- ---- how a hold stands

pub record SoleLoad (h : Name) (o : Operand) (n : ℕ) (es : History) : Type 0 where
  pub there : Loaded h o n es
  pub sole : (o' : Operand) (n' : ℕ) → Loaded h o' n' es → (o' ≡ o) × (n' ≡ n)

-- a job is where the digits asked for have brought the operand that the hold loaded
pub record Brought (m : Make) (h : Name) (job : Job) (es : History) : Type 0 where
  pub operand : Operand
  pub asks : ℕ
  pub load : SoleLoad h operand asks es
  pub admitted : Admitted operand
  pub job_is : job ≡ turns m (min (digits m operand) asks) (begun m operand)

abbrev pub JobFits : Make → Name → Option Job → History → Type 0
JobFits m h None es = (o : Operand) (n : ℕ) → Loaded h o n es → ⊥
JobFits m h (Some job) es = Brought m h job es

pub record Stands (m : Make) (h : Name) (d : ℕ) (job : Option Job) (es : History) : Type 0 where
  pub force : InForce h d es
  pub until : (d' : ℕ) → InForce h d' es → d' ≡ d
  pub fits : JobFits m h job es

abbrev pub Matches : Make → Name → View → History → Type 0
Matches m h out es = (d : ℕ) → InForce h d es → ⊥
Matches m h (within d job) es = Stands m h d job es

-- ---- events that leave a hold as it stands

sole_keep : {h : Name} {e : Event} {es : History} → Quiet h e → {o : Operand} {n : ℕ} → SoleLoad h o n es → SoleLoad h o n (e ∷ es)
sole_keep q l = record { there = load_keep q l.there; sole = λ o' n' l'. l.sole o' n' (load_back q l') }

module _ (m : Make) (h : Name) (e : Event) (es : History) (q : Quiet h e) where
  fits_keep : (job : Option Job) → JobFits m h job es → JobFits m h job (e ∷ es)
  fits_keep None f = λ o n l. f o n (load_back q l)
  fits_keep (Some job) f = record { operand = f.operand; asks = f.asks; load = sole_keep q f.load; admitted = f.admitted; job_is = f.job_is }

  stands_keep : (d : ℕ) (job : Option Job) → ending h d e ≡ false → Stands m h d job es → Stands m h d job (e ∷ es)
  stands_keep d job n s = record { force = lasts s.force n; until = λ d' f. s.until d' (force_back q f).0; fits = fits_keep job s.fits }

  matches_keep : ((d : ℕ) → ending h d e ≡ false) → (v : View) → Matches m h v es → Matches m h v (e ∷ es)
  matches_keep n out f = λ d i. f d (force_back q i).0
  matches_keep n (within d job) s = stands_keep d job (n d) s

-- ---- kinds of events

and_not : (x : Bool) → (x && false) ≡ false
and_not true = refl
and_not false = refl

cond_same : {A : Type 0} (x : Bool) (a : A) → cond x a a ≡ a
cond_same true a = refl
cond_same false a = refl

-- refused
refused_begins : (h : Name) (c : Call) (r : Refusal) → begins h c (Err r) ≡ true → ⊥
refused_begins h (Tick t) r e = false≢true e
refused_begins h (Take lane ticks) r e = false≢true (sym (and_not (eqb lane h.lane)) ∙ e)
refused_begins h (Ask g q) r e = false≢true e

refused_quiet : (h : Name) (c : Call) (r : Refusal) → Quiet h (event c (Err r))
refused_quiet h c r = record { no_gift = refused_begins h c r; no_count = refl; no_load = λ o a p. false≢true a }

-- of no concern to the hold
other_quiet : (h : Name) (c : Call) (a : Result Reply Refusal) → concerns h c a ≡ false → Quiet h (event c a)
other_quiet h (Tick t) a e = absurd (true≢false e)
other_quiet h (Take lane ticks) a e = record { no_gift = λ g. true≢false (sym g ∙ e); no_count = cond_same (accepted a) 0; no_load = λ o _ p. clash (cc) }
other_quiet h (Ask g r) a e =
    record {
      no_gift = λ f. false≢true f;
      no_count = rw e (cond_same (accepted a) 0);
      no_load = λ o _ p. let p' : None ≡ Some o = rw e at p in clash (cc);
    }

other_lasts : (h : Name) (c : Call) (a : Result Reply Refusal) → concerns h c a ≡ false → (d : ℕ) → ending h d (event c a) ≡ false
other_lasts h (Tick t) a e d = absurd (true≢false e)
other_lasts h (Take lane ticks) a e d = and_not (accepted a)
other_lasts h (Ask g r) a e d = rw e (and_not (accepted a))

-- ticks
tick_quiet : (h : Name) (t : ℕ) (a : Result Reply Refusal) → Quiet h (event (Tick t) a)
tick_quiet h t a = record { no_gift = λ g. false≢true g; no_count = cond_same (accepted a) 0; no_load = λ o _ p. clash (cc) }

-- the hold's own requests, but steps and loads
ask_quiet : (h : Name) (r : Request) (a : Result Reply Refusal) → count_of r ≡ 0 → operand_of r ≡ None → Quiet h (event (Ask h r) a)
ask_quiet h r a z n =
    record {
      no_gift = λ g. false≢true g;
      no_count = rw (same_self h, z) (cond_same (accepted a) 0);
      no_load = λ o _ p. let p' : None ≡ Some o = rw (same_self h, n) at p in clash (cc);
    }

-- ---- a request with the hold itself

-- one that ends it, accepted
freed : (m : Make) (h : Name) (es : History) (r : Request) (a : Result Reply Refusal) → is_last r ≡ true → count_of r ≡ 0 → operand_of r ≡ None → accepted a ≡ true → Matches m h out (event (Ask h r) a ∷ es)
freed m h es r a l z n y = λ d f. true≢false (sym (rw (y, same_self h, l)) ∙ (force_back (ask_quiet h r a z n) f).1)

looked : (m : Make) (h : Name) (es : History) (d : ℕ) (job : Option Job) (a : Result Reply Refusal) → Stands m h d job es → Stands m h d job (event (Ask h Look) a ∷ es)
looked m h es d job a s = stands_keep m h (event (Ask h Look) a) es (ask_quiet h Look a refl refl) d job (rw (same_self h) (and_not (accepted a))) s

refusal : (m : Make) (h : Name) (es : History) (v : View) (r : Request) (k : Refusal) → Matches m h v es → Matches m h v (event (Ask h r) (Err k) ∷ es)
refusal m h es v r k s = matches_keep m h (event (Ask h r) (Err k)) es (refused_quiet h (Ask h r) k) (λ d. refl) v s

-- one that it lives on through
module _ (m : Make) (h : Name) (es : History) (d : ℕ) (r : Request) (a : Result Reply Refusal) (goes_on : is_last r ≡ false) where
  lives : (job next : Option Job) → Stands m h d job es → JobFits m h next (event (Ask h r) a ∷ es) → Stands m h d next (event (Ask h r) a ∷ es)
  lives job next s f =
      record { force = lasts s.force (rw (same_self h, goes_on) (and_not (accepted a))); until = λ d' i. s.until d' (back d' (force_inv i)); fits = f }
    where
      back : (d' : ℕ) → ForceCases h d' (event (Ask h r) a) es → InForce h d' es
      back d' (inl g) = absurd (false≢true g.0)
      back d' (inr f) = f.0

-- a load
loaded_now : (m : Make) (h : Name) (es : History) (d : ℕ) (o : Operand) (r : Request) → Admitted o → operand_of r ≡ Some o → is_last r ≡ false → Stands m h d None es →
    Stands m h d (Some (begun m o)) (event (Ask h r) (Ok Done) ∷ es)
loaded_now m h es d o r ok p l s =
    lives m h es d r (Ok Done) l None (Some (begun m o)) s
    (record {
      operand = o;
      asks = 0;
      load = record { there = loaded refl (rw (same_self h) p); sole = λ o' n' i. only o' n' (load_inv i) };
      admitted = ok;
      job_is = ap (λ j. turns m j (begun m o)) (none (digits m o));
    })
  where
    none : (D : ℕ) → 0 ≡ min D 0
    none D = omega arith

    only : (o' : Operand) (n' : ℕ) → LoadCases h o' n' (event (Ask h r) (Ok Done)) es → (o' ≡ o) × (n' ≡ 0)
    only o' n' (inl t) =
        let q : operand_of r ≡ Some o' = rw (same_self h) at t.1 in
        let e : Some o ≡ Some o' = sym p ∙ q in
        let e' : o' ≡ o = cc in
        (e', t.2)
    only o' n' (inr t) = absurd (s.fits o' t.0 t.1)

-- a step
sole_step : (h : Name) (o : Operand) (n k t : ℕ) (es : History) → SoleLoad h o n es → SoleLoad h o (k + n) (event (Ask h (Step k)) (Ok (Stepped t)) ∷ es)
sole_step h o n k t es l =
    record {
      there = rw (same_self h) at (since {e = event (Ask h (Step k)) (Ok (Stepped t))} l.there);
      sole = λ o' n' l'. only o' n' (load_inv l');
    }
  where
    only : (o' : Operand) (n' : ℕ) → LoadCases h o' n' (event (Ask h (Step k)) (Ok (Stepped t))) es → (o' ≡ o) × (n' ≡ k + n)
    only o' n' (inl i) = let i' : None ≡ Some o' = rw (same_self h) at i.1 in clash (cc)
    only o' n' (inr i) =
        let p = l.sole o' i.0 i.1 in
        let q : n' ≡ k + i.0 = rw (same_self h) at i.2 in
        (p.0, rw p.1 at q)

-- the digits left, of a job that its operand was brought to
pub brought_left : (m : Make) → Lawful m → (h : Name) (job : Job) (es : History) (f : Brought m h job es) → left m job ≡ digits m f.operand - min (digits m f.operand) f.asks
brought_left m L h job es f =
    ap (left m) f.job_is ∙ (goes m L f.operand f.admitted (min (digits m f.operand) f.asks) (omega arith)).left_is

stepped : (m : Make) → Lawful m → (h : Name) (es : History) (d k : ℕ) (job : Job) → Stands m h d (Some job) es →
    Stands m h d (Some (turns m (min k (left m job)) job)) (event (Ask h (Step k)) (Ok (Stepped (min k (left m job)))) ∷ es)
stepped m L h es d k job s =
    lives m h es d (Step k) (Ok (Stepped (min k (left m job)))) refl (Some job) (Some (turns m (min k (left m job)) job)) s
    (record {
      operand = f.operand;
      asks = k + f.asks;
      load = sole_step h f.operand f.asks k (min k (left m job)) es f.load;
      admitted = f.admitted;
      job_is =
          ap (turns m (min k (left m job))) f.job_is ∙ turns_add m (min k (left m job)) (min D f.asks) (begun m f.operand) ∙
          ap (λ j. turns m j (begun m f.operand)) (grown D f.asks k (left m job) (brought_left m L h job es f));
    })
  where
    f : Brought m h job es
    f = s.fits

    D : ℕ
    D = digits m f.operand

    grown : (D n k l : ℕ) → l ≡ D - min D n → min k l + min D n ≡ min D (k + n)
    grown D n k l p = omega arith

abbrev After : Make → Name → ℕ → Option Job → Request → History → Served → Type 0
After m h d job r es sv = Matches m h (kept_view d job sv) (event (Ask h r) (said sv) ∷ es)

module _ (m : Make) (L : Lawful m) (h : Name) (es : History) (d : ℕ) where
  load_fits : (K Q x : ℕ) → Stands m h d None es → (r : Option OperandRefusal) → operands.refusal K Q x ≡ r →
      After m h d None (Load K Q x) es (loading m (fixed K Q x) r)
  load_fits K Q x s None e = loaded_now m h es d (fixed K Q x) (Load K Q x) (admits K Q x e) refl refl s
  load_fits K Q x s (Some r) e = refusal m h es (within d None) (Load K Q x) (BadOperand r) s

  collect_fits : (job : Job) (mode : Mode) → Stands m h d (Some job) es → (a : Option Answer) → After m h d (Some job) (Collect mode) es (collecting a)
  collect_fits job mode s None = refusal m h es (within d (Some job)) (Collect mode) DigitsLeft s
  collect_fits job mode s (Some a) = freed m h es (Collect mode) (Ok (Told a)) refl refl refl refl

  served_fits : (job : Option Job) (r : Request) → Stands m h d job es → After m h d job r es (serve m job r)
  served_fits None (Load K Q x) s = load_fits K Q x s (operands.refusal K Q x) refl
  served_fits None (Load32 v) s = loaded_now m h es d (single v) (Load32 v) any refl refl s
  served_fits None (Step n) s = refusal m h es (within d None) (Step n) NoJob s
  served_fits None Look s = refusal m h es (within d None) Look NoJob s
  served_fits None (Collect mode) s = refusal m h es (within d None) (Collect mode) NoJob s
  served_fits None Give s = freed m h es Give (Ok Done) refl refl refl refl
  served_fits (Some job) (Load K Q x) s = refusal m h es (within d (Some job)) (Load K Q x) AlreadyLoaded s
  served_fits (Some job) (Load32 v) s = refusal m h es (within d (Some job)) (Load32 v) AlreadyLoaded s
  served_fits (Some job) (Step n) s = stepped m L h es d n job s
  served_fits (Some job) Look s = looked m h es d (Some job) _ s
  served_fits (Some job) (Collect mode) s = collect_fits job mode s (told m mode job)
  served_fits (Some job) Give s = freed m h es Give (Ok Done) refl refl refl refl

asked_fits : (m : Make) → Lawful m → (h : Name) (es : History) (v : View) (r : Request) → Matches m h v es → Matches m h (asked m v r) (event (Ask h r) (reply m v r) ∷ es)
asked_fits m L h es out r s = refusal m h es out r NotInForce s
asked_fits m L h es (within d job) r s = served_fits m L h es d job r s

-- ---- ticks and takes

tick_fits : (m : Make) (h : Name) (es : History) (t : ℕ) (v : View) → Matches m h v es → Matches m h (expired t v) (event (Tick t) (Ok Done) ∷ es)
tick_fits m h es t out s = λ d f. s d (force_back (tick_quiet h t (Ok Done)) f).0
tick_fits m h es t (within d job) s = go (leb d t) refl
  where
    go : (x : Bool) → leb d t ≡ x → Matches m h (expired t (within d job)) (event (Tick t) (Ok Done) ∷ es)
    go true e =
        let gone : Matches m h out (event (Tick t) (Ok Done) ∷ es) =
        λ d' f.
        let b = force_back (tick_quiet h t (Ok Done)) f in
        let same : d' ≡ d = s.until d' b.0 in
        true≢false (sym (rw same e) ∙ b.1) in
        rw e gone
    go false e =
        let stays : Stands m h d job (event (Tick t) (Ok Done) ∷ es) = stands_keep m h (event (Tick t) (Ok Done)) es (tick_quiet h t (Ok Done)) d job e s in
        rw e stays

-- a hold that was never in force and never loaded
pub record Fresh (h : Name) (es : History) : Type 0 where
  pub never_in_force : (d : ℕ) → InForce h d es → ⊥
  pub never_loaded : (o : Operand) (n : ℕ) → Loaded h o n es → ⊥

take_fits : (m : Make) (h : Name) (es : History) (lane ticks : ℕ) (a : Result Reply Refusal) → begins h (Take lane ticks) a ≡ true → Fresh h es →
    Stands m h (clock es + ticks) None (event (Take lane ticks) a ∷ es)
take_fits m h es lane ticks a g n = record { force = taken g; until = λ d' f. only d' (force_inv f); fits = λ o k l. none o k (load_inv l) }
  where
    only : (d' : ℕ) → ForceCases h d' (event (Take lane ticks) a) es → d' ≡ clock es + ticks
    only d' (inl t) = t.1
    only d' (inr f) = absurd (n.never_in_force d' f.0)

    none : (o : Operand) (k : ℕ) → LoadCases h o k (event (Take lane ticks) a) es → ⊥
    none o k (inl t) = let p = t.1 in clash (cc)
    none o k (inr t) = n.never_loaded o t.0 t.1

-- ---- every run

pub record Inv (m : Make) (h : Name) (b : Bank) (es : History) : Type 0 where
  pub clocks : b.time ≡ clock es
  pub fresh : b.next ≤ h.serial → Fresh h es
  pub stands : Matches m h (view b h) es

clock_step : (m : Make) (b : Bank) (c : Call) (now : ℕ) → b.time ≡ now → (after m b c).time ≡ cond (accepted (answer m b c)) (sets c now) now
clock_step m b (Tick t) now e = go (ltb t b.time) refl
  where
    go : (x : Bool) → ltb t b.time ≡ x → (after m b (Tick t)).time ≡ cond (accepted (answer m b (Tick t))) t now
    go true f = rw f e
    go false f = rw f
clock_step m b (Take lane ticks) now e = go (bars b lane ticks) refl
  where
    go : (x : Option Refusal) → bars b lane ticks ≡ x → (after m b (Take lane ticks)).time ≡ cond (accepted (answer m b (Take lane ticks))) now now
    go None f = rw f e
    go (Some r) f = rw f e
clock_step m b (Ask g r) now e = e ∙ sym (cond_same (accepted (answer m b (Ask g r))) now)

unseen : (m : Make) (h : Name) (es : History) (v : View) → Matches m h v es → ((d : ℕ) → InForce h d es → ⊥) → v ≡ out
unseen m h es out s n = refl
unseen m h es (within d job) s n = absurd (n d s.force)

-- what loads a hold is a request with it
pub loads_own : (h : Name) (o : Operand) (c : Call) → loads h c ≡ Some o → (r : Request) × (c ≡ Ask h r)
loads_own h o (Tick t) e = clash (cc)
loads_own h o (Take lane ticks) e = clash (cc)
loads_own h o (Ask g r) e = go (same g h) refl
  where
    go : (x : Bool) → same g h ≡ x → (q : Request) × (Ask g r ≡ Ask h q)
    go true f = (r, ap (λ k. Ask k r) (same→≡ g h f))
    go false f = let e' : None ≡ Some o = rw f at e in clash (cc)

fresh_step : (m : Make) (h : Name) (b : Bank) (es : History) (c : Call) → Inv m h b es → (after m b c).next ≤ h.serial → Fresh h (event c (answer m b c) ∷ es)
fresh_step m h b es c i n =
    let old : b.next ≤ h.serial = omega (arith, next_grows m b c) in
    record { never_in_force = λ d f. no_force (i.fresh old) d (force_inv f); never_loaded = λ o k l. no_load (i.fresh old) o k (load_inv l) }
  where
    no_force : Fresh h es → (d : ℕ) → ForceCases h d (event c (answer m b c)) es → ⊥
    no_force f d (inl g) = let p = (gives_next m b h c g.0).1 in omega arith
    no_force f d (inr t) = f.never_in_force d t.0

    no_load : Fresh h es → (o : Operand) (k : ℕ) → LoadCases h o k (event c (answer m b c)) es → ⊥
    no_load f o k (inl t) =
        let r = loads_own h o c t.1 in
        let v : view b h ≡ out = unseen m h es (view b h) i.stands f.never_in_force in
        let a : answer m b (Ask h r.0) ≡ Err NotInForce = (own_step m b h (Ask h r.0) (same_self h)).tells ∙ ap (λ x. reply m x r.0) v in
        let y : accepted (answer m b (Ask h r.0)) ≡ true = subst (λ (x : Call). accepted (answer m b x) ≡ true) r.1 t.0 in
        false≢true (sym (ap accepted a) ∙ y)
    no_load f o k (inr t) = f.never_loaded o t.0 t.1

ask_stands : (m : Make) → Lawful m → (h : Name) (b : Bank) (es : History) (r : Request) → Matches m h (view b h) es →
    Matches m h (view (after m b (Ask h r)) h) (event (Ask h r) (answer m b (Ask h r)) ∷ es)
ask_stands m L h b es r s =
    let o = own_step m b h (Ask h r) (same_self h) in
    subst (λ v. Matches m h v (event (Ask h r) (answer m b (Ask h r)) ∷ es)) (sym (ap (λ k. k.view) o.moves))
    (subst (λ a. Matches m h (asked m (view b h) r) (event (Ask h r) a ∷ es)) (sym o.tells) (asked_fits m L h es (view b h) r s))

own_stands : (m : Make) → Lawful m → (h : Name) (b : Bank) (es : History) (c : Call) → Inv m h b es → concerns h c (answer m b c) ≡ true →
    Matches m h (view (after m b c) h) (event c (answer m b c) ∷ es)
own_stands m L h b es (Tick t) i e = go (ltb t b.time) refl
  where
    moved : view (after m b (Tick t)) h ≡ (evolve m h (Tick t) (track b h)).view
    moved = ap (λ k. k.view) (own_step m b h (Tick t) refl).moves

    go : (x : Bool) → ltb t b.time ≡ x → Matches m h (view (after m b (Tick t)) h) (event (Tick t) (answer m b (Tick t)) ∷ es)
    go true f =
        let p : Matches m h (view b h) (event (Tick t) (Err BelowClock) ∷ es) = matches_keep m h (event (Tick t) (Err BelowClock)) es (refused_quiet h (Tick t) BelowClock) (λ d. refl) (view b h) i.stands in
        rw (moved, f) p
    go false f = rw (moved, f) (tick_fits m h es t (view b h) i.stands)
own_stands m L h b es (Take lane ticks) i e =
    let o = own_step m b h (Take lane ticks) e in
    let n = (gives_next m b h (Take lane ticks) e).0 in
    let s = take_fits m h es lane ticks (answer m b (Take lane ticks)) e (i.fresh (omega arith)) in
    let p : within (clock es + ticks) None ≡ view (after m b (Take lane ticks)) h = sym (ap (λ k. k.view) o.moves ∙ ap (λ x. within (x + ticks) None) i.clocks) in
    subst (λ v. Matches m h v (event (Take lane ticks) (answer m b (Take lane ticks)) ∷ es)) p s
own_stands m L h b es (Ask g r) i e =
    subst (λ x. Matches m h (view (after m b (Ask x r)) h) (event (Ask x r) (answer m b (Ask x r)) ∷ es)) (sym (same→≡ g h e)) (ask_stands m L h b es r i.stands)

stands_step : (m : Make) → Lawful m → (h : Name) (b : Bank) (es : History) (c : Call) → Inv m h b es → Matches m h (view (after m b c) h) (event c (answer m b c) ∷ es)
stands_step m L h b es c i = go (concerns h c (answer m b c)) refl
  where
    go : (x : Bool) → concerns h c (answer m b c) ≡ x → Matches m h (view (after m b c) h) (event c (answer m b c) ∷ es)
    go true e = own_stands m L h b es c i e
    go false e =
        subst (λ v. Matches m h v (event c (answer m b c) ∷ es)) (sym (ap (λ k. k.view) (other_step m b h c e)))
        (matches_keep m h (event c (answer m b c)) es (other_quiet h c (answer m b c) e) (other_lasts h c (answer m b c) e) (view b h) i.stands)

force_some : {h : Name} {d : ℕ} {es : History} → InForce h d es → es ≡ [] → ⊥
force_some (taken g) p = clash (cc)
force_some (lasts f n) p = clash (cc)

pub load_some : {h : Name} {o : Operand} {n : ℕ} {es : History} → Loaded h o n es → es ≡ [] → ⊥
load_some (loaded a l) p = clash (cc)
load_some (since l) p = clash (cc)

pub always : (m : Make) → Lawful m → (h : Name) (cs : List Call) → Inv m h (bank_after m cs) (history m cs)
always m L h [] =
    record {
      clocks = refl;
      fresh = λ _. record { never_in_force = λ d f. force_some f refl; never_loaded = λ o n l. load_some l refl };
      stands = λ d f. force_some f refl;
    }
always m L h (c ∷ cs) =
    let b = bank_after m cs in
    let es = history m cs in
    let i = always m L h cs in
    record { clocks = clock_step m b c (clock es) i.clocks; fresh = fresh_step m h b es c i; stands = stands_step m L h b es c i }
