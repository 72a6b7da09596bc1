-- How the story of the slow job goes, from what any two holders share.
use Rattle.std.proofs.Common.{◌≡◌, ◌≤◌, ◌⊎◌, refl, ap, inl, inr, arith}
use Rattle.protocol.specs.declared.call.Name.{Name}
use Rattle.protocol.specs.declared.call.Request.TheVariants.{Give}
use Rattle.protocol.specs.Operands.{Make, Lawful, digits}
use Rattle.protocol.specs.History.{InForce, Loaded, Taken}
use Rattle.protocol.specs.History.InForce.{taken, lasts}
use Rattle.protocol.specs.History.Loaded.{loaded, since}
use Rattle.protocol.specs.History.Taken.{now, before}
use Rattle.protocol.specs.Promise.{history, HoldersShare}
use Rattle.protocol.specs.Story.{slow, next, operand, at_work, handed_over, worked_off, GoesWellEverywhere}
use Rattle.protocol.proofs.Share.{holders_share}

slow_in_force : (m : Make) → InForce slow 5 (history m at_work)
slow_in_force m = lasts (lasts (lasts (taken refl) refl) refl) refl

next_taken : (m : Make) → Taken next (history m handed_over)
next_taken m = before (before (now refl))

next_in_force : (m : Make) → InForce next 15 (history m worked_off)
next_in_force m = lasts (lasts (lasts (lasts (lasts (taken refl) refl) refl) refl) refl) refl

next_loaded : (m : Make) → Loaded next operand 10 (history m worked_off)
next_loaded m = since (since (since (since (loaded refl refl))))

few : (m : Make) → Lawful m → digits m operand ≤ 10
few m L = go L.selector.bits
  where
    go : (m.selector.bits ≡ 1) ⊎ (m.selector.bits ≡ 2) → digits m operand ≤ 10
    go (inl e) = rw e (omega arith)
    go (inr e) = rw e (omega arith)

goes_well : HoldersShare → GoesWellEverywhere
goes_well share m L =
    record {
      in_force = slow_in_force m;
      refused = refl;
      unchanged = λ later. share.undisturbed m handed_over later slow next Give (next_taken m) (λ (e : slow ≡ next). absurd (omega (arith, ap (λ (n : Name). n.serial) e)));
      start = (share.each m L worked_off next operand 10 (next_loaded m)).contained refl 0 (omega arith);
      collected = λ mode. (share.each m L worked_off next operand 10 (next_loaded m)).collects mode 15 (next_in_force m) (few m L);
    }

pub everywhere : GoesWellEverywhere
everywhere = goes_well holders_share
