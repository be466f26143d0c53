-- Firing orders and routes one after the other.
-- Assumes nothing.
use Rattle.std.specs.Prelude.{◌≡◌, ℕ, ◌+◌, ◌<◌}
use Rattle.std.proofs.Math.Path.{refl, subst}
use Rattle.std.proofs.Common.{sym, arith}
use mathlib.Core.List.{List, [], ◌∷◌, ◌++◌}
use Rattle.net.specs.Graph.{Graph, Marking, tokens_on, Fireable, fire, after, Legal, Route}

-- the tokens on two lists of edges
pub tokens_on_append : (μ : Marking) (a b : List ℕ) → tokens_on μ (a ++ b) ≡ tokens_on μ a + tokens_on μ b
unfolding tokens_on
tokens_on_append μ [] b = omega arith
tokens_on_append μ (e ∷ a) b = omega (arith, tokens_on_append μ a b)

module _ (G : Graph) where
  -- the marking after two orders
  pub after_append : (μ : Marking) (s t : List ℕ) → after G μ (s ++ t) ≡ after G (after G μ s) t
  unfolding after
  after_append μ [] t = refl
  after_append μ (n ∷ s) t = after_append (fire G n μ) s t

  -- a legal order, and one that is legal after it
  pub legal_append : (μ : Marking) (s t : List ℕ) → Legal G μ s → Legal G (after G μ s) t → Legal G μ (s ++ t)
  unfolding Legal after
  legal_append μ [] t l k = k
  legal_append μ (n ∷ s) t l k = (l.0, l.1, legal_append (fire G n μ) s t l.2 k)

  -- both parts of a legal order are legal
  pub legal_prefix : (μ : Marking) (s t : List ℕ) → Legal G μ (s ++ t) → Legal G μ s × Legal G (after G μ s) t
  unfolding Legal after
  legal_prefix μ [] t l = (tt, l)
  legal_prefix μ (n ∷ s) t l = let r = legal_prefix (fire G n μ) s t l.2 in ((l.0, l.1, r.0), r.1)

  -- one firing more
  pub legal_snoc : (μ : Marking) (s : List ℕ) (n : ℕ) → Legal G μ s → n < G.nodes → Fireable G (after G μ s) n → Legal G μ (s ++ (n ∷ []))
  unfolding Legal
  legal_snoc μ s n l h f = legal_append μ s (n ∷ []) l (h, f, tt)

  -- a route on from where another ends
  pub route_append : (a b : List ℕ) (m v n : ℕ) → Route G m a v → Route G v b n → Route G m (a ++ b) n
  unfolding Route
  route_append [] b m v n r t = subst (λ x. Route G x b n) (sym r) t
  route_append (e ∷ a) b m v n r t = (r.0, r.1, route_append a b (G.destination e) v n r.2 t)
