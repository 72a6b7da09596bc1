-- What any two holders share, from how a hold stands and from where its job is.
use Rattle.std.proofs.Common.{◌≡◌, ℕ, ◌-◌, ◌<◌, ◌≤◌, min, Bool, true, false, List, [], ◌∷◌, Some, None, Ok, Err, Option, Result, sym, refl, ap, ◌∙◌, subst, ap₂, inl, inr, ⊎_elim, arith}
use mathlib.Core.Bool.{false≢true}
use Rattle.std.proofs.lemmas.Bool.{cases_lt}
use Rattle.arithmetic.specs.Estimates.{shortfall}
use Rattle.selection.specs.declared.refusal.Refusal.{Refusal as OperandRefusal}
use Rattle.selection.specs.Operands.{Contained}
use Rattle.selection.specs.Operands as operands
use Rattle.selection.specs.Selectors as selectors
use Rattle.recurrence.specs.Root.{Exactness}
use Rattle.recurrence.specs.Recurrence.{turns, first_registers}
use Rattle.recurrence.specs.Stages.{Digits, Stage}
use Rattle.recurrence.proofs.Finishing.{root_unique}
use Rattle.single.specs.MarkSets.{marks_of}
use Rattle.single.specs.declared.mode.Mode.{Mode}
use Rattle.single.specs.declared.marks.Marks.{Marks}
use Rattle.single.specs.declared.answer.Answer.{Answer}
use Rattle.single.proofs.Determined.{rsqrt_once}
use Rattle.arithmetic.proofs.Cases.{clash}
use Rattle.protocol.specs.declared.refusal.Refusal.{Refusal}
use Rattle.protocol.specs.declared.refusal.Refusal.TheVariants.{DigitsLeft}
use Rattle.protocol.specs.declared.call.Name.{Name}
use Rattle.protocol.specs.declared.call.Request.{Request}
use Rattle.protocol.specs.declared.call.Request.TheVariants.{Load, Load32, Step, Look, Collect, Give}
use Rattle.protocol.specs.declared.call.Call.{Call}
use Rattle.protocol.specs.declared.call.Call.TheVariants.{Ask}
use Rattle.protocol.specs.declared.call.Reply.{Reply}
use Rattle.protocol.specs.declared.call.Reply.TheVariants.{Stepped, Shown, Told}
use Rattle.protocol.specs.Operands.{Make, Lawful, Operand, width, places, number, settled, digits, partial_result, Right}
use Rattle.protocol.specs.Operands.Operand.{fixed, single}
use Rattle.protocol.specs.Operands.Right.{root, rounded}
use Rattle.protocol.specs.History.{accepted, operand_of, loads, History, InForce, Loaded}
use Rattle.protocol.specs.Jobs.{Job, begun, told}
use Rattle.protocol.specs.Jobs as jobs
use Rattle.protocol.specs.Bank.{serve, said, loading, collecting, answer}
use Rattle.protocol.specs.Promise.{bank_after, history, next_answer, Holder, MayCollect, HoldersShare}
use Rattle.protocol.proofs.Views.{View, own_step, same_self, reply, view}
use Rattle.protocol.proofs.Views.View.{out, within}
use Rattle.protocol.proofs.Separate.{separate, undisturbed}
use Rattle.protocol.proofs.Working.{Admitted, admits, Goes, goes, stages}
use Rattle.protocol.proofs.Working.Admitted.{any}
use Rattle.protocol.proofs.Standing.{event, LoadCases, load_inv, load_some, loads_own, JobFits, Stands, Matches, always}

-- ---- what is right is determined

right_once : (mode : Mode) (o : Operand) (w w' : ℕ) (k k' : Marks) → Right mode o w k → Right mode o w' k' → (w ≡ w') × (k ≡ k')
right_once mode (fixed K Q x) w w' k k' (root {exact = a} r e) (root {exact = b} r' e') =
    let p : w ≡ w' = root_unique K Q x w w' r r' in
    (p, ap marks_of (same a b e (subst (λ (f : ℕ). Exactness K Q x f b) (sym p) e')))
  where
    same : (a b : Bool) → Exactness K Q x w a → Exactness K Q x w b → a ≡ b
    same true true e e' = refl
    same true false e e' = absurd (omega (arith, e.equal refl, e'.below refl))
    same false true e e' = absurd (omega (arith, e'.equal refl, e.below refl))
    same false false e e' = refl
right_once mode (single v) w w' k k' (rounded r) (rounded r') = rsqrt_once mode v w w' k k' r r'

-- ---- what a hold in force finds

record Found (m : Make) (h : Name) (d : ℕ) (v : View) (es : History) : Type 0 where
  job : Option Job
  is : v ≡ within d job
  stands : Stands m h d job es

find : (m : Make) (h : Name) (d : ℕ) (v : View) (es : History) → InForce h d es → Matches m h v es → Found m h d v es
find m h d out es f s = absurd (s d f)
find m h d (within d' job) es f s =
    let p : d' ≡ d = sym (s.until d f) in
    record { job = job; is = ap (λ x. within x job) p; stands = subst (λ x. Stands m h x job es) p s }

module _ (m : Make) (L : Lawful m) (cs : List Call) (h : Name) where
  says : (r : Request) → next_answer m cs (Ask h r) ≡ reply m (view (bank_after m cs) h) r
  says r = (own_step m (bank_after m cs) h (Ask h r) (same_self h)).tells

  found : (d : ℕ) → InForce h d (history m cs) → Found m h d (view (bank_after m cs) h) (history m cs)
  found d f = find m h d (view (bank_after m cs) h) (history m cs) f (always m L h cs).stands

  -- the answer to a request of a hold that is in force and has loaded, from where its operand was brought
  module _ (o : Operand) (n : ℕ) (l : Loaded h o n (history m cs)) (d : ℕ) (f : InForce h d (history m cs)) where
    abbrev reached : ℕ
    reached = min (digits m o) n

    record Working : Type 0 where
      job : Job
      answers : (r : Request) → next_answer m cs (Ask h r) ≡ said (serve m (Some job) r)
      admitted : Admitted o
      job_is : job ≡ jobs.turns m reached (begun m o)

    brought : (job : Option Job) → JobFits m h job (history m cs) → ((r : Request) → next_answer m cs (Ask h r) ≡ said (serve m job r)) → Working
    brought None fits says_so = absurd (fits o n l)
    brought (Some job) fits says_so =
        let p = fits.load.sole o n l in
        record {
          job = job;
          answers = says_so;
          admitted = subst Admitted (sym p.0) fits.admitted;
          job_is = fits.job_is ∙ sym (ap₂ (λ (x : Operand) (k : ℕ). jobs.turns m (min (digits m x) k) (begun m x)) p.0 p.1);
        }

    working : Working
    working =
        let w = found d f in
        brought w.job w.stands.fits (λ r. says r ∙ ap (λ v. reply m v r) w.is)

    course : Goes m o reached working.job
    course = subst (Goes m o reached) (sym working.job_is) (goes m L o working.admitted reached (omega arith))

    looks : next_answer m cs (Ask h Look) ≡ Ok (Shown reached (partial_result m o reached))
    looks = working.answers Look ∙ ap₂ (λ n s. Ok (Shown n s)) course.made_is course.partial_is

    steps : (k : ℕ) → next_answer m cs (Ask h (Step k)) ≡ Ok (Stepped (min k (digits m o - n)))
    steps k = working.answers (Step k) ∙ ap (λ i. Ok (Stepped (min k i))) (course.left_is ∙ short (digits m o) n)
      where
        short : (D n : ℕ) → D - min D n ≡ D - n
        short D n = omega arith

    collects : digits m o ≤ n → (mode : Mode) → (a : Answer) × (next_answer m cs (Ask h (Collect mode)) ≡ Ok (Told a)) × Right mode o a.word a.marks
    collects all mode =
        let all_made : reached ≡ digits m o = full (digits m o) n all in
        let t = course.at_end all_made mode in
        (t.0, working.answers (Collect mode) ∙ ap (λ i. said (collecting i)) t.1, t.2)
      where
        full : (D n : ℕ) → D ≤ n → min D n ≡ D
        full D n h = omega arith

    only_all : (mode : Mode) (a : Answer) → next_answer m cs (Ask h (Collect mode)) ≡ Ok (Told a) → digits m o ≤ n
    only_all mode a e = ⊎_elim (λ (k : n < digits m o). absurd (too_early k)) (λ (k : digits m o ≤ n). k) (cases_lt n (digits m o))
      where
        too_early : n < digits m o → ⊥
        too_early k =
            let r : reached < digits m o = omega arith in
            let none : next_answer m cs (Ask h (Collect mode)) ≡ Err DigitsLeft = working.answers (Collect mode) ∙ ap (λ i. said (collecting i)) (course.early r mode) in
            let e' : Err DigitsLeft ≡ Ok (Told a) = sym none ∙ e in
            clash (cc)

  -- ---- who may collect

  collected : (v : View) (mode : Mode) (a : Answer) → Matches m h v (history m cs) → next_answer m cs (Ask h (Collect mode)) ≡ Ok (Told a) → reply m v (Collect mode) ≡ Ok (Told a) → MayCollect m cs h
  collected out mode a s e e' = clash (cc)
  collected (within d None) mode a s e e' = clash (cc)
  collected (within d (Some job)) mode a s e e' =
      let b = s.fits in
      record {
        deadline = d;
        in_force = s.force;
        operand = b.operand;
        asked = b.asks;
        loaded = b.load.there;
        all_made = only_all b.operand b.asks b.load.there d s.force mode a e;
      }

  only_then : (mode : Mode) (a : Answer) → next_answer m cs (Ask h (Collect mode)) ≡ Ok (Told a) → MayCollect m cs h
  only_then mode a e = collected (view (bank_after m cs) h) mode a (always m L h cs).stands e (sym (says (Collect mode)) ∙ e)

  told_right : (o : Operand) (n : ℕ) → Loaded h o n (history m cs) → (mode : Mode) (a : Answer) → next_answer m cs (Ask h (Collect mode)) ≡ Ok (Told a) → Right mode o a.word a.marks
  told_right o n l mode a e =
      let may = only_then mode a e in
      let all = only_all o n l may.deadline may.in_force mode a e in
      let t = collects o n l may.deadline may.in_force all mode in
      let same : Ok (Told t.0) ≡ Ok (Told a) = sym t.1 ∙ e in
      let p : t.0 ≡ a = cc in
      subst (λ (x : Answer). Right mode o x.word x.marks) p t.2

-- ---- a hold that has loaded has loaded what a load accepts

admitted_view : (m : Make) (v : View) (o : Operand) (r : Request) → operand_of r ≡ Some o → accepted (reply m v r) ≡ true → Admitted o
admitted_view m out o r p a = absurd (false≢true a)
admitted_view m (within d (Some job)) o (Load K Q x) p a = absurd (false≢true a)
admitted_view m (within d (Some job)) o (Load32 v) p a = absurd (false≢true a)
admitted_view m (within d None) o (Load K Q x) p a = subst Admitted (cc) (go (operands.refusal K Q x) refl a)
  where
    go : (t : Option OperandRefusal) → operands.refusal K Q x ≡ t → accepted (said (loading m (fixed K Q x) t)) ≡ true → Admitted (fixed K Q x)
    go None e a = admits K Q x e
    go (Some t) e a = absurd (false≢true a)
admitted_view m (within d None) o (Load32 v) p a = subst Admitted (cc) (any {v = v})
admitted_view m (within d job) o (Step n) p a = clash (cc)
admitted_view m (within d job) o Look p a = clash (cc)
admitted_view m (within d job) o (Collect mode) p a = clash (cc)
admitted_view m (within d job) o Give p a = clash (cc)

admitted : (m : Make) (h : Name) (o : Operand) (n : ℕ) (cs : List Call) → Loaded h o n (history m cs) → Admitted o
admitted m h o n [] l = absurd (load_some l refl)
admitted m h o n (c ∷ cs) l = go (λ (k : ℕ) (i : Loaded h o k (history m cs)). admitted m h o k cs i) (load_inv l)
  where
    go : ((k : ℕ) → Loaded h o k (history m cs) → Admitted o) → LoadCases h o n (event c (answer m (bank_after m cs) c)) (history m cs) → Admitted o
    go ih (inl t) =
        let r = loads_own h o c t.1 in
        let b = bank_after m cs in
        let a : accepted (answer m b (Ask h r.0)) ≡ true = subst (λ (x : Call). accepted (answer m b x) ≡ true) r.1 t.0 in
        let y : accepted (reply m (view b h) r.0) ≡ true = subst (λ (x : Result Reply Refusal). accepted x ≡ true) (own_step m b h (Ask h r.0) (same_self h)).tells a in
        let p : loads h (Ask h r.0) ≡ Some o = subst (λ (x : Call). loads h x ≡ Some o) r.1 t.1 in
        let q : operand_of r.0 ≡ Some o = rw (same_self h) at p in
        admitted_view m (view b h) o r.0 q y
    go ih (inr t) = ih t.0 t.1

-- ---- the whole promise

stage_at : (m : Make) → Lawful m → (o : Operand) → Admitted o → settled o ≡ false → (n j : ℕ) → j ≤ min (digits m o) n →
    Stage shortfall m.selector m.form (width o) (places o) (number o) j (turns m.selector m.form j (first_registers m.selector m.form (width o) (places o) (number o)))
stage_at m L o a e n j h =
    let D : digits m o ≡ selectors.digits m.selector (places o) = rw e in
    stages m L o a e j (omega arith)

contained : (m : Make) → Lawful m → (o : Operand) → Admitted o → settled o ≡ false → (n j : ℕ) → j ≤ min (digits m o) n →
    Contained m.selector.bits m.selector.largest (width o) (places o) (number o) j (partial_result m o j)
contained m L o a e n j h = rw e (stage_at m L o a e n j h).contained

digit_by_digit : (m : Make) → Lawful m → (o : Operand) → Admitted o → settled o ≡ false → (n j : ℕ) → j ≤ min (digits m o) n →
    Digits shortfall m.selector m.form (width o) (places o) (number o) j (partial_result m o j)
digit_by_digit m L o a e n j h = rw e (stage_at m L o a e n j h).digits_made

holder : (m : Make) → Lawful m → (cs : List Call) (h : Name) (o : Operand) (n : ℕ) → Loaded h o n (history m cs) → Holder m cs h o n
holder m L cs h o n l =
    let a = admitted m h o n cs l in
    record {
      contained = λ e j h. contained m L o a e n j (omega (arith, h));
      digit_by_digit = λ e j. digit_by_digit m L o a e n j;
      looks = λ d f. looks m L cs h o n l d f;
      steps = λ k d f. steps m L cs h o n l d f k;
      collects = λ mode d f all. collects m L cs h o n l d f all mode;
    }

alike : (m₁ m₂ : Make) → Lawful m₁ → Lawful m₂ → (cs₁ cs₂ : List Call) (h₁ h₂ : Name) (o : Operand) (n₁ n₂ : ℕ) →
    Loaded h₁ o n₁ (history m₁ cs₁) → Loaded h₂ o n₂ (history m₂ cs₂) → (mode : Mode) (a₁ a₂ : Answer) →
    next_answer m₁ cs₁ (Ask h₁ (Collect mode)) ≡ Ok (Told a₁) → next_answer m₂ cs₂ (Ask h₂ (Collect mode)) ≡ Ok (Told a₂) → a₁ ≡ a₂
alike m₁ m₂ L₁ L₂ cs₁ cs₂ h₁ h₂ o n₁ n₂ l₁ l₂ mode a₁ a₂ e₁ e₂ =
    let r₁ = told_right m₁ L₁ cs₁ h₁ o n₁ l₁ mode a₁ e₁ in
    let r₂ = told_right m₂ L₂ cs₂ h₂ o n₂ l₂ mode a₂ e₂ in
    let p = right_once mode o a₁.word a₂.word a₁.marks a₂.marks r₁ r₂ in
    λ i. record { word = p.0 i; marks = p.1 i }

pub holders_share : HoldersShare
holders_share = record { each = holder; only_then = only_then; alike = alike; undisturbed = undisturbed; separate = separate }
