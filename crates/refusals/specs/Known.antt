-- A call is not turned down exactly where its process is known and closed or open as the call wants it, and its marks are.
-- Assumes nothing.
use Rattle.std.proofs.Math.Path.{◌≡◌, refl}
use Rattle.std.specs.Prelude.{List, Bool, ◌↔◌, ◌≢◌, ℕ, suc, ◌<◌, eqb}
use Rattle.std.proofs.Math.Bool.{true, false}
use Rattle.std.proofs.Common.{arith}
use borrow.Author.Tests.{leb-false, eqb-true, eqb-false, lt-leb, eq-eqb, ne_eqb}
use Rattle.std.proofs.Math.Dec.{leb}
use Rattle.loops.specs.Choice.{at, if}
use Rattle.rows.specs.Lists.{spot, row_left}
use Rattle.refusals.specs.Numbers.{marked_in, open_number, look_number, fire_number}

-- two tests, and three
two : (a b : Bool) (k : ℕ) → (if a 20 (if b 0 (suc k)) ≡ 0) ↔ ((a ≡ false) × (b ≡ true))
unfolding if
two true b k = (λ e. absurd (omega arith), λ r. absurd (let z : ◌≡◌ {A = ℕ} 0 1 = let y = r.0 in cc in omega arith))
two false true k = (λ e. (refl, refl), λ r. refl)
two false false k = (λ e. absurd (omega arith), λ r. absurd (let z : ◌≡◌ {A = ℕ} 0 1 = let y = r.1 in cc in omega arith))

three : (a b c : Bool) (k : ℕ) → (if a 20 (if b 22 (if c 0 (suc k))) ≡ 0) ↔ ((a ≡ false) × (b ≡ false) × (c ≡ true))
unfolding if
three true b c k = (λ e. absurd (omega arith), λ r. absurd (let z : ◌≡◌ {A = ℕ} 0 1 = let y = r.0 in cc in omega arith))
three false true c k = (λ e. absurd (omega arith), λ r. absurd (let z : ◌≡◌ {A = ℕ} 0 1 = let y = r.1 in cc in omega arith))
three false false true k = (λ e. (refl, refl, refl), λ r. refl)
three false false false k = (λ e. absurd (omega arith), λ r. absurd (let z : ◌≡◌ {A = ℕ} 0 1 = let y = r.2 in cc in omega arith))

two_25 : (a b : Bool) (k : ℕ) → k ≢ 25 → if a 20 (if b 0 k) ≢ 25
unfolding if
two_25 true b k d e = omega arith
two_25 false true k d e = omega arith
two_25 false false k d e = d e

three_25 : (a b c : Bool) (k : ℕ) → k ≢ 25 → if a 20 (if b 22 (if c 0 k)) ≢ 25
unfolding if
three_25 true b c k d e = omega arith
three_25 false true c k d e = omega arith
three_25 false false true k d e = omega arith
three_25 false false false k d e = d e

module _ (processes : ℕ) (opened : List ℕ) (p : ℕ) where
  -- an open of a closed process
  pub open_known : (open_number processes opened p ≡ 0) ↔ ((p < processes) × (at opened p ≡ 0))
  unfolding open_number
  open_known =
      let t = two (leb processes p) (eqb (at opened p) 0) 20 in (
        λ e. let r = t.0 e in (leb-false processes p r.0, eqb-true (at opened p) 0 r.1),
        λ r. t.1 (lt-leb processes p r.0, eq-eqb (at opened p) 0 r.1),
      )

  pub open_25 : open_number processes opened p ≢ 25
  unfolding open_number
  open_25 = two_25 (leb processes p) (eqb (at opened p) 0) 21 (λ e. omega arith)

  module _ (marks : List ℕ) where
    -- a fire of an open process with no mark left
    pub fire_known : (fire_number processes opened marks p ≡ 0) ↔ ((p < processes) × (at opened p ≢ 0) × (row_left marks p ≡ 0))
    unfolding fire_number
    fire_known =
        let t = three (leb processes p) (eqb (at opened p) 0) (eqb (row_left marks p) 0) 23 in (
          λ e. let r = t.0 e in (leb-false processes p r.0, eqb-false (at opened p) 0 r.1, eqb-true (row_left marks p) 0 r.2),
          λ r. t.1 (lt-leb processes p r.0, ne_eqb (at opened p) 0 r.1, eq-eqb (row_left marks p) 0 r.2),
        )

    pub fire_25 : fire_number processes opened marks p ≢ 25
    unfolding fire_number
    fire_25 = three_25 (leb processes p) (eqb (at opened p) 0) (eqb (row_left marks p) 0) 24 (λ e. omega arith)

    module _ (edges e : ℕ) where
      -- an edge that is marked
      marked_known : (marked_in marks edges p e ≡ true) ↔ ((e < edges) × (at marks (spot p e) ≡ 1))
      unfolding marked_in if
      marked_known = by (leb edges e) refl
        where
          by : (t : Bool) → leb edges e ≡ t → (if t false (eqb (at marks (spot p e)) 1) ≡ true) ↔ ((e < edges) × (at marks (spot p e) ≡ 1))
          by true q = (
            λ y. absurd (let z : ◌≡◌ {A = ℕ} 0 1 = cc in omega arith),
            λ r. absurd (let z : ◌≡◌ {A = ℕ} 0 1 = let y = lt-leb edges e r.0 in cc in omega arith),
          )
          by false q = (λ y. (leb-false edges e q, eqb-true (at marks (spot p e)) 1 y), λ r. eq-eqb (at marks (spot p e)) 1 r.1)

      -- a look of an open process at a marked edge
      pub look_known : (look_number processes edges opened marks p e ≡ 0)
          ↔ ((p < processes) × (at opened p ≢ 0) × (e < edges) × (at marks (spot p e) ≡ 1))
      unfolding look_number
      look_known =
          let t = three (leb processes p) (eqb (at opened p) 0) (marked_in marks edges p e) 22 in (
            λ n.
                let r = t.0 n in
                let m = marked_known.0 r.2 in
                (leb-false processes p r.0, eqb-false (at opened p) 0 r.1, m.0, m.1),
            λ r. t.1 (lt-leb processes p r.0, ne_eqb (at opened p) 0 r.1, marked_known.1 (r.2, r.3)),
          )

      pub look_25 : look_number processes edges opened marks p e ≢ 25
      unfolding look_number
      look_25 = three_25 (leb processes p) (eqb (at opened p) 0) (marked_in marks edges p e) 23 (λ q. omega arith)
