-- A list of the places that are marked, each once: a number stands in it as often as it is marked.
-- Assumes nothing.
use Rattle.std.specs.Prelude.{◌≡◌, refl, List, [], ◌∷◌, ℕ, zero, suc, ◌≤◌, ◌<◌, length}
use Rattle.std.proofs.Common.{sym, ap, ◌∙◌, inl, inr, arith}
use Rattle.std.proofs.Math.Decide.{ℕ_discrete, dec_lt}
use Rattle.loops.specs.Sum.{sum, sum_same, sum_none}
use Rattle.net.specs.Graph.{firings}
use Rattle.net.specs.Counts.{same_or_not, one_if_same_self}
use Rattle.follow.specs.RoundSums.{sum_one_place}
use Rattle.follow.specs.DriveCalls.{Listed}

-- where nothing is marked more than once there is such a list
pub listed : (mark : ℕ → ℕ) (n : ℕ) → ((e : ℕ) → e < n → mark e ≤ 1) → (es : List ℕ) × Listed mark n es
unfolding firings
listed mark zero once = ([], record { each = λ e h. absurd (omega arith); past = λ e h. refl })
listed mark (suc n) once = next (listed mark n (λ e h. once e (omega arith)))
  where
    next : (es : List ℕ) × Listed mark n es → (es : List ℕ) × Listed mark (suc n) es
    next (es, l) =
        elim (ℕ_discrete (mark n) 0) [
          | yes z ↦ (
            es,
            record {
              each = λ e h. elim (ℕ_discrete e n) [ yes q ↦ omega (arith, l.past e (omega arith), ap mark q) | no q ↦ l.each e (omega arith) ];
              past = λ e h. l.past e (omega arith);
            },
          )
          | no z ↦ (
            n ∷ es,
            record {
              each = λ e h.
                  elim (same_or_not e n) [
                    | inl q ↦ omega (arith, l.past e (omega arith), ap mark q.0, once n (omega arith))
                    | inr q ↦ omega (arith, l.each e (omega arith))
                  ];
              past = λ e h.
                  elim (same_or_not e n) [
                    | inl q ↦ absurd (omega arith)
                    | inr q ↦ omega (arith, l.past e (omega arith))
                  ];
            },
          )
        ]

-- a number that stands first in it, is marked, and without it the rest is listed
pub listed_first : {mark : ℕ → ℕ} {n e : ℕ} {es : List ℕ} → Listed mark n (e ∷ es) → (e < n) × (0 < mark e)
unfolding firings
listed_first {mark} {n} {e} {es} l =
    elim (dec_lt e n) [
      | yes h ↦ (h, omega (arith, l.each e h, one_if_same_self e))
      | no h ↦ absurd (omega (arith, l.past e (omega arith), one_if_same_self e))
    ]

-- how often numbers below n stand in a list of them is how long it is
firings_length : (n : ℕ) (es : List ℕ) → ((e : ℕ) → n ≤ e → firings e es ≡ 0) → sum (λ e. firings e es) n ≡ length es
unfolding firings
firings_length n [] past = sum_none (λ e. 0) n (λ e h. refl)
firings_length n (x ∷ es) past =
    sum_one_place (λ e. firings e (x ∷ es)) (λ e. firings e es) n x 1 known
    (λ e h d. elim (same_or_not e x) [ inl q ↦ absurd (d q.0) | inr q ↦ omega arith ]) (omega (arith, one_if_same_self x))
    ∙ (let rest = firings_length n es (λ e h. omega (arith, past e h)) in omega arith)
  where
    known : x < n
    known = elim (dec_lt x n) [ yes h ↦ h | no h ↦ absurd (omega (arith, past x (omega arith), one_if_same_self x)) ]

-- so many are marked
pub listed_length : {mark : ℕ → ℕ} {n : ℕ} {es : List ℕ} → Listed mark n es → sum mark n ≡ length es
listed_length {mark} {n} {es} l = sum_same mark (λ e. firings e es) n (λ e h. sym (l.each e h)) ∙ firings_length n es l.past
