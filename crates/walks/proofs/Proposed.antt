-- Notes that are found by sweeps are as `Proposal` says. Assumes nothing.
use mathlib.Core.List.{◌∷◌}
use mathlib.Core.Logic.{◌↔◌}
use Prim.Native.Nat.{ℕ, ◌<◌}
use native.Mathlib.Omega.{arith}
use Rattle.walks.specs.Walks.{Machine, Exact}
use Rattle.walks.specs.Served.Passing.{Passes, noted}
use Rattle.walks.specs.Sweeps.{Note, Still}
use Rattle.walks.specs.Served.Told.{Told}
use Rattle.walks.specs.Served.Inference.{Found, Proposal}
use Rattle.walks.proofs.SweepLaws.{next_mono, still_to, contains, passes}
use Rattle.walks.proofs.Bounds.{reports_one, at_most, at_most_one_more}
use Rattle.walks.proofs.NopLaws.{exactly}
use Rattle.walks.proofs.LackLaws.{lost}
use Rattle.walks.proofs.RestLaws.{walk_noted, holds_noted, safe_of_passes, exact, passes_of_safe}

-- notes that name the same
module _ {G : Type 0} (m : Machine G) (some : 0 < m.count) (a b : ℕ → G → Type 0)
    (same : (j : ℕ) → j < m.count → (g : G) → (a j g ↔ b j g)) where
  pub passes_same : Passes (noted m a) → Passes (noted m b)
  passes_same ok = record {
    first = λ g h. ok.first g ((same 0 some g).1 h);
    reads = λ i l g h. (same i l g).0 (ok.reads i l g h);
    stays = ok.stays;
    carries = λ i j l k f g h. next_mono m i g (a i) (b i) (same i l g).0 (ok.carries i j l k f g ((same j k g).1 h));
  }

  pub exact_same : Exact (noted m a) → Exact (noted m b)
  exact_same e i l g f = (
    λ h w v. holds_noted m a b (i ∷ w) g ((e i l g f).0 ((same i l g).1 h) w (walk_noted m b a v)),
    λ h. (same i l g).0 ((e i l g f).1 (λ w v. holds_noted m b a (i ∷ w) g (h w (walk_noted m a b v)))),
  )

module _ {G : Type 0} (m : Machine G) (some : 0 < m.count) (told : Told m) (sweeps : ℕ) (notes : ℕ → G → Type 0) (found : Found m sweeps notes) where
  rests : Still m sweeps
  rests = let r = found.reports in still_to m sweeps r.changing (omega (arith, r.counted)) r.rests

  back : (j : ℕ) → j < m.count → (g : G) → (Note m sweeps j g ↔ notes j g)
  back j l g = ((found.are j l g).1, (found.are j l g).0)

  pub proposal : Proposal m sweeps notes
  proposal = record {
    contains = λ others ok j l g f h. (found.are j l g).1 (contains m others ok sweeps j l g f h);
    accepted = λ others ok. passes_same m some (Note m sweeps) notes back (passes m told sweeps rests others ok);
    exact = λ reached. exact_same m some (Note m sweeps) notes back (exact m some told reached sweeps rests);
    lacks = λ reached j l g f. (
      λ n. lost m told some reached g f sweeps j l (λ h. n ((found.are j l g).1 h)),
      λ s h.
          s.2 (holds_noted m (Note m sweeps) m.claims (j ∷ s.0) g
          ((exact m some told reached sweeps rests j l g f).0 ((found.are j l g).0 h) s.0 (walk_noted m m.claims (Note m sweeps) s.1))),
    );
    safe = λ reached. (
      safe_of_passes m some notes,
      λ s. passes_same m some (Note m sweeps) notes back (passes_of_safe m some told reached sweeps rests s),
    );
    bound = λ uses ok. at_most m told uses notes ok some sweeps found.reports;
    nops = λ line. reports_one m sweeps m.count found.reports (exactly m line);
    ends = at_most_one_more m told sweeps found.reports;
  }
