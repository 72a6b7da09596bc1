-- The code's jobs as the model has them.
use Rattle.std.specs.Prelude.{ℕ, ◌≤◌, Some, None, Ok, Err, Option, Result}
use Rattle.recurrence.specs.Recurrence as recurrence
use Rattle.single.specs.declared.answer.Answer.{Answer}
use Rattle.protocol.specs.declared.refusal.Refusal.{Refusal}
use Rattle.protocol.specs.declared.call.Reply.{Reply}
use Rattle.protocol.specs.declared.call.Reply.TheVariants.{Done, Stepped, Shown, Told}
use Rattle.protocol.specs.Jobs.{Job}
use Rattle.protocol.specs.Jobs.Job.{settled, fixed, single}
use Rattle.protocol.specs.Bank.{Served}
use Rattle.protocol.specs.Bank.Served.{stopped, goes_on, frees}
use Rattle.lane_job.specs.declared.job.LaneJob.{LaneJob}
use Rattle.lane_job.specs.declared.job.LaneJob.TheVariants.{Settled, Fixed, Single}

abbrev pub seen_job : LaneJob → Job
seen_job (Settled a) = settled a
seen_job (Fixed job) = fixed (recurrence.seen job)
seen_job (Single number job) = single number.exponent (recurrence.seen job)

abbrev pub seen_option : Option LaneJob → Option Job
seen_option None = None
seen_option (Some job) = Some (seen_job job)

-- ---- what a request does to the job of its hold, by the result of the code

abbrev pub served : {A : Type 0} → (A → Served) → Result A Refusal → Served
served accepted (Ok x) = accepted x
served accepted (Err r) = stopped r

abbrev pub served_load : Result LaneJob Refusal → Served
served_load res = served (λ job. goes_on Done (seen_job job)) res

abbrev pub served_step : Result (ℕ × LaneJob) Refusal → Served
served_step res = served (λ p. goes_on (Stepped p.0) (seen_job p.1)) res

abbrev pub served_collect : Result Answer Refusal → Served
served_collect res = served (λ a. frees (Told a)) res

-- ---- results of the code as answers of the model

abbrev pub lifted : {A : Type 0} → (A → Reply) → Result A Refusal → Result Reply Refusal
lifted reply (Ok x) = Ok (reply x)
lifted reply (Err r) = Err r

abbrev pub shown : Result (ℕ × ℕ) Refusal → Result Reply Refusal
shown res = lifted (λ p. Shown p.0 p.1) res

-- a look shows at most 28 digits made
abbrev pub FewMade : Result (ℕ × ℕ) Refusal → Type 0
FewMade (Ok p) = p.0 ≤ 28
FewMade (Err r) = Unit {0}
