-- What a chain over the numbers 0, 1, .. n - 1 answers, in the words of `Values`: `(0..n).any(..)`, `(0..n).find(..)` and the like.
-- Each lemma takes what the call's contract says it `ran`, and that the closure computes f. Assumes nothing.
use Rattle.std.specs.Prelude.{List, Bool, true, false, ℕ, zero, suc, ◌+◌, ◌*◌, min, ◌<◌, ◌≤◌, ◌≡◌, refl, ◌||◌, Option, Some, None, IfSome, map}
use Rattle.std.proofs.Common.{add-one, arith, sym, ap, ◌∙◌, le-ltb, lt-ltb}
use Rattle.std.specs.declared.ops.Range.{Range}
use Rattle.std.specs.declared.iter.Map.{Map}
use Rattle.std.specs.Bool.{⊤}
use Rattle.std.specs.Fn.{Called, CalledAt}
use Rattle.std.specs.Iterator.{YieldsThen, Drains}
use Rattle.std.specs.Iterator.Runs.{EachRunFrom}
use Rattle.std.specs.List.{list_any, range_with_len, sum_by, fold as list_fold, FoldsTo}
use Rattle.std.specs.Option.{MatchOption, unwrap_or}
use Rattle.std.specs.Iterator.Adapters.{map_source, map_callee}
use Rattle.std.proofs.iter.Yields.{nat_range_steps}
use Rattle.std.proofs.lemmas.Iterator.{YieldsList, YieldsList-from_range, YieldsList-from_map, maps, first_from_Range}
use Rattle.std.proofs.lemmas.Iterator.Consumers.{sum_from_yields_List, fits_from_yields_list}
use Rattle.std.proofs.lemmas.Iterator.Search.{any_from_yields_List}
use denote.Param.Members.{Mut}
use denote.Ref.{Bor}
use Rattle.loops.specs.Values.{if, any_of, any, first, lowest, sum}
use Rattle.loops.specs.Sum.{sum_le}
use Rattle.loops.specs.First.{first_unique, first_all, first_le}
use Rattle.std.proofs.Math.Decide.{dec_lt}
use Rattle.std.proofs.Math.Path.{subst}
use Rattle.std.proofs.lemmas.List.FromFn.{sum_by-map-range_with_len_more}

anyRange : (f : ℕ → Bool) (i m : ℕ) → list_any f (range_with_len i m) ≡ any_of f i m
unfolding any_of if
anyRange f i zero = refl
anyRange f i (suc m) = by_test (f i) (rw (add-one) (anyRange f (suc i) m))
  where
    by_test : (b : Bool) → list_any f (range_with_len (i + 1) m) ≡ any_of f (suc i) m → (b || list_any f (range_with_len (i + 1) m)) ≡ if b true (any_of f (suc i) m)
    by_test true e = refl
    by_test false e = e

-- `(0..n).any(..)`
pub any_chain : {F : Type 0} {g : Mut F (ℕ × Unit {0}) Bool} {s u : Range ℕ} {c : F} {r : Bool} {n : ℕ} (f : ℕ → Bool)
    → (xs : List ℕ) × (o : Option ℕ) × (j : F) × YieldsThen nat_range_steps s xs o u × FoldsTo (λ p x q. Called g p (x, tt) false q) c xs j × MatchOption o (r ≡ false) (λ x. (r ≡ true) × ((h : F) × Called g j (x, tt) true h))
    → s ≡ record { start = 0; end = n } → ((x : ℕ) (b : Bool) (q : F) → Called g c (x, tt) b q → (q ≡ c) × (b ≡ f x)) → r ≡ any f n
unfolding any
any_chain {n = n} f ran e t = any_from_yields_List f _ _ _ ran (YieldsList-from_range 0 n n e (omega arith)) t ∙ anyRange f 0 n

found_lowest : (f : ℕ → Bool) (n : ℕ) (r : Option ℕ) → MatchOption r ((k : ℕ) → 0 ≤ k → k < n → f k ≡ false) (λ i. (0 ≤ i) × (i < n) × (f i ≡ true) × ((k : ℕ) → 0 ≤ k → k < i → f k ≡ false)) → r ≡ lowest f n
unfolding lowest if
found_lowest f n None none = rw (first_all f n (λ k l. none k (omega arith) l), le-ltb n n (omega arith))
found_lowest f n (Some i) some = let e : first f n ≡ i = first_unique f n i some.1 some.2 (λ k l. some.3 k (omega arith) l) in rw (e, lt-ltb i n some.1)

-- `(0..n).find(..)`
pub find_chain : {F : Type 0} {g : Mut F (Bor ℕ × Unit {0}) Bool} {s : Range ℕ} (u : Range ℕ) {c : F} {r : Option ℕ} {n : ℕ} (f : ℕ → Bool)
    → (xs : List ℕ) × (j : F) × YieldsThen nat_range_steps s xs r u × FoldsTo (λ p x q. CalledAt g p x false q) c xs j × MatchOption r ⊤ (λ x. (h : F) × CalledAt g j x true h)
    → s ≡ record { start = 0; end = n } → ((x : ℕ) (b : Bool) (q : F) → CalledAt g c x b q → (q ≡ c) × (b ≡ f x)) → r ≡ lowest f n
find_chain {g = g} {s = s} u {c = c} {r = r} {n = n} f ran e t =
    found_lowest f n r
    (rw (sym (ap (λ (w : Range ℕ). w.start) e), sym (ap (λ (w : Range ℕ). w.end) e)) (first_from_Range {g = g} s u c r (λ x. f x ≡ true) (λ x. f x ≡ false) ran (λ x q k. sym (t x true q k).1) (λ x q k. ((t x false q k).0, sym (t x false q k).1))))

sum_range : (f : ℕ → ℕ) (n : ℕ) → sum_by (λ x. x) (map f (range_with_len 0 n)) ≡ sum f n
unfolding sum
sum_range f zero = refl
sum_range f (suc n) = ap (λ k. sum_by (λ x. x) (map f (range_with_len 0 k))) (let e : suc n ≡ n + 1 = omega arith in e) ∙ sum_by-map-range_with_len_more (λ x. x) f 0 n n (omega arith) ∙ rw (sum_range f n) refl

mapped : {F : Type 0} (g : Mut F (ℕ × Unit {0}) ℕ) {s : Map (Range ℕ) F} {c : F} {n : ℕ} (f : ℕ → ℕ)
    → map_source s ≡ record { start = 0; end = n } → map_callee s ≡ c → ((x r : ℕ) (q : F) → Called g c (x, tt) r q → (q ≡ c) × (r ≡ f x))
    → YieldsList (maps nat_range_steps g) (λ x. x) s (map f (range_with_len 0 n))
mapped g {n = n} f e d t = YieldsList-from_map g f (YieldsList-from_range 0 n n e (omega arith)) d t

-- `(0..n).map(..).sum()`: s is what `map` gave, the next facts are its clauses `source` and `closure`, `top` is the end of the sum's type
pub sum_chain : {F : Type 0} {g : Mut F (ℕ × Unit {0}) ℕ} (s : Map (Range ℕ) F) {c : F} {r n : ℕ} (f : ℕ → ℕ)
    → (xs : List ℕ) × (⊤ → Drains (maps nat_range_steps g) s xs) × (r ≡ list_fold (λ a x. a + x) 0 xs)
    → map_source s ≡ record { start = 0; end = n } → map_callee s ≡ c → ((x r : ℕ) (q : F) → Called g c (x, tt) r q → (q ≡ c) × (r ≡ f x)) → r ≡ sum f n
sum_chain {g = g} s {r = r} {n = n} f ran e d t = sum_from_yields_List s r ran (mapped g f e d t) ∙ sum_range f n

-- what its `sum` asks: that the sum is below the type's end
pub sum_fits : {F : Type 0} {g : Mut F (ℕ × Unit {0}) ℕ} (s : Map (Range ℕ) F) {c : F} (top : ℕ) {n : ℕ} (f : ℕ → ℕ)
    → map_source s ≡ record { start = 0; end = n } → map_callee s ≡ c → ((x r : ℕ) (q : F) → Called g c (x, tt) r q → (q ≡ c) × (r ≡ f x)) → sum f n < top
    → EachRunFrom (maps nat_range_steps g) s (λ p. list_fold (λ a x. a + x) 0 p.items < top)
sum_fits {g = g} s top {n = n} f e d t h = fits_from_yields_list s top (mapped g f e d t) (rw (sum_range f n) h)

-- the same where each summand is at most b
pub sum_fits_most : {F : Type 0} {g : Mut F (ℕ × Unit {0}) ℕ} (s : Map (Range ℕ) F) {c : F} (top b : ℕ) {n : ℕ} (f : ℕ → ℕ)
    → map_source s ≡ record { start = 0; end = n } → map_callee s ≡ c → ((x r : ℕ) (q : F) → Called g c (x, tt) r q → (q ≡ c) × (r ≡ f x)) → ((x r : ℕ) (q : F) → Called g c (x, tt) r q → r ≤ b) → n * b < top
    → EachRunFrom (maps nat_range_steps g) s (λ p. list_fold (λ a x. a + x) 0 p.items < top)
sum_fits_most s top b {n = n} f e d t u h =
    sum_fits s top (λ k. min (f k) b) e d (λ x r q k. let l = u x r q k in let v = t x r q k in (v.0, omega (arith, v.1))) (omega (arith, sum_le (λ k. min (f k) b) b (λ k. omega arith) n))

-- what a search's answer tells, and what it is with n for nothing
lowest_tells : (f : ℕ → Bool) (n : ℕ) (r : Option ℕ) → r ≡ lowest f n → MatchOption r (n ≤ first f n) (λ k. (k < n) × (k ≡ first f n))
unfolding lowest if
lowest_tells f n r e =
    elim (dec_lt (first f n) n) [
      | yes p ↦ let h : r ≡ Some (first f n) = e ∙ rw (lt-ltb (first f n) n p) in rw h (p, refl)
      | no p ↦ let h : r ≡ None = e ∙ rw (le-ltb (first f n) n (omega arith)) in rw h (omega arith)
    ]

or_all : (f : ℕ → Bool) (n : ℕ) (r : Option ℕ) → MatchOption r (n ≤ first f n) (λ k. (k < n) × (k ≡ first f n)) → unwrap_or r n ≡ first f n
or_all f n None h = omega (arith, first_le f n)
or_all f n (Some k) h = h.1

below_top : (f : ℕ → Bool) (n top : ℕ) (r : Option ℕ) → MatchOption r (n ≤ first f n) (λ k. (k < n) × (k ≡ first f n)) → n ≤ top → IfSome r (λ place. place < top)
below_top f n top None h l = tt
below_top f n top (Some k) h l = omega (arith, h.0)

module _ (f : ℕ → Bool) (n : ℕ) (r : Option ℕ) (e : r ≡ lowest f n) where
  pub lowest_some : (k : ℕ) → r ≡ Some k → (k < n) × (k ≡ first f n)
  lowest_some k h = subst (λ (o : Option ℕ). MatchOption o (n ≤ first f n) (λ k. (k < n) × (k ≡ first f n))) h (lowest_tells f n r e)

  pub lowest_none : r ≡ None → n ≤ first f n
  lowest_none h = subst (λ (o : Option ℕ). MatchOption o (n ≤ first f n) (λ k. (k < n) × (k ≡ first f n))) h (lowest_tells f n r e)

  -- the place, or n where there is none
  pub lowest_or : unwrap_or r n ≡ first f n
  lowest_or = or_all f n r (lowest_tells f n r e)

  -- what is found is below each bound of n
  pub lowest_below : (top : ℕ) → n ≤ top → IfSome r (λ place. place < top)
  lowest_below top h = below_top f n top r (lowest_tells f n r e) h

-- the same for `grind`, which takes the two cases of what is found
pub lowest_lt : (f : ℕ → Bool) (n k : ℕ) → lowest f n ≡ Some k → k < n
lowest_lt f n k e = (lowest_some f n (lowest f n) refl k e).0
