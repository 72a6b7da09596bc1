-- The reference jobs, by computation.
use mathlib.Core.Path.{◌≡◌, refl, subst}
use lib.Dec.{lit≤, lit<}
use Rattle.number_form.specs.Plain.{plain}
use Rattle.number_form.proofs.Shared.{more_units}
use Rattle.number_form.proofs.PlainLawful.{plain_lawful}
use Rattle.selection.specs.Radix2.{radix_2}
use Rattle.selection.specs.Radix4.{radix_4}
use Rattle.selection.proofs.Radix2Lawful.{radix_2_lawful}
use Rattle.single.specs.declared.answer.Answer.{Answer}
use Rattle.single.specs.Rsqrt.{Rsqrt}
use Rattle.single.specs.Readings.{reading, told}
use Rattle.single.proofs.Correct.{told_right}
use Rattle.reference_rows.specs.declared.SingleRow.{SingleRow}
use Rattle.reference_rows.specs.References.{row_answer, SingleRight, Established}

-- what comes out is right
single_right : (r : SingleRow) → told radix_2 plain r.mode (reading r.operand) ≡ row_answer r → told radix_4 plain r.mode (reading r.operand) ≡ row_answer r → SingleRight r
single_right r two four =
    record {
      root = subst (λ (a : Answer). Rsqrt r.mode r.operand a.word a.marks) two (told_right radix_2 plain radix_2_lawful (more_units {m = 1} {n = 2} (lit≤ tt) plain_lawful) r.mode r.operand);
      by_radix_2 = two;
      by_radix_4 = four;
    }

pub established : Established
established =
    record {
      fixed_right = (
        record { root = record { fits = lit≤ tt; largest = lit< tt }; by_radix_2 = refl; by_radix_4 = refl },
        (
          record { root = record { fits = lit≤ tt; largest = lit< tt }; by_radix_2 = refl; by_radix_4 = refl },
          (
            record { root = record { fits = lit≤ tt; largest = lit< tt }; by_radix_2 = refl; by_radix_4 = refl },
            (
              record { root = record { fits = lit≤ tt; largest = lit< tt }; by_radix_2 = refl; by_radix_4 = refl },
              (record { root = record { fits = lit≤ tt; largest = lit< tt }; by_radix_2 = refl; by_radix_4 = refl }, tt),
            ),
          ),
        ),
      );
      singles_right = (
        single_right _ refl refl,
        (single_right _ refl refl, (single_right _ refl refl, (single_right _ refl refl, (single_right _ refl refl, tt)))),
      );
      radix_2_digits = refl;
      radix_2_ends = refl;
      radix_4_digits = refl;
      radix_4_ends = refl;
    }
