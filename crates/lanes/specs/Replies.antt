-- Results of the code as answers of the model.
use Rattle.std.specs.Prelude.{ℕ, ◌<◌, ◌≤◌, Ok, Err, Result}
use Rattle.single.specs.declared.answer.Answer.{Answer}
use Rattle.protocol.specs.declared.refusal.Refusal.{Refusal}
use Rattle.protocol.specs.declared.call.Reply.{Reply}
use Rattle.protocol.specs.declared.call.Reply.TheVariants.{Done, Took, Stepped, Shown, Told}
use Rattle.lane_job.specs.Seen.{lifted}

abbrev pub done : Result (Unit {0}) Refusal → Result Reply Refusal
done res = lifted (λ _. Done) res

abbrev pub took : Result ℕ Refusal → Result Reply Refusal
took res = lifted Took res

abbrev pub stepped : Result ℕ Refusal → Result Reply Refusal
stepped res = lifted Stepped res

abbrev pub told : Result Answer Refusal → Result Reply Refusal
told res = lifted Told res

-- a bank shows at most 28 digits made
abbrev pub FewShown : Result Reply Refusal → Type 0
FewShown (Ok Done) = Unit {0}
FewShown (Ok (Took serial)) = Unit {0}
FewShown (Ok (Stepped n)) = Unit {0}
FewShown (Ok (Shown n s)) = n ≤ 28
FewShown (Ok (Told a)) = Unit {0}
FewShown (Err r) = Unit {0}

-- a hold that is told a result has one of the eight lanes
abbrev pub ToldBelowEight : ℕ → Result Answer Refusal → Type 0
ToldBelowEight lane (Ok a) = lane < 8
ToldBelowEight lane (Err r) = Unit {0}
