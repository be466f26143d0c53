-- Every route has one with fewer edges than there are nodes and no more tokens.
-- Assumes nothing.
use Rattle.std.proofs.Common.{arith, mul-le-mul_left}
use Rattle.std.specs.Prelude.{List, [], ◌∷◌, ℕ, ◌-◌, ◌*◌, ◌≤◌, ◌<◌, length}
use Rattle.net.specs.Graph.{Graph, Marking, Shaped, tokens_on, Route, Emptiest}
use Rattle.net.specs.Shorten.{Shortened, shorten}

-- a route holds at most as many tokens as its edges can
tokens_on_le : (G : Graph) (μ : Marking) (t : ℕ) → ((e : ℕ) → e < G.edges → μ e ≤ t) → (es : List ℕ) (m n : ℕ) → Route G m es n → tokens_on μ es ≤ t * length es
unfolding Route tokens_on
tokens_on_le G μ t f [] m n r = omega arith
tokens_on_le G μ t f (e ∷ es) m n r = omega (arith, tokens_on_le G μ t f es (G.destination e) n r.2, f e r.0)

-- where every edge holds at most t tokens, the emptiest route holds at most t for each node but one
pub emptiest_bound : (G : Graph) (μ : Marking) → Shaped G → (t : ℕ) → ((e : ℕ) → e < G.edges → μ e ≤ t)
    → (m n d : ℕ) → m < G.nodes → Emptiest G μ m n d → d ≤ t * (G.nodes - 1)
emptiest_bound G μ shaped t f m n d h a =
    let s : Shortened G shaped μ m n a.some.0 = shorten G shaped μ m n h a.some.0 a.some.1 in
    omega (arith, a.least s.edges s.route, tokens_on_le G μ t f s.edges m n s.route, mul-le-mul_left {m = length s.edges} {n = G.nodes - 1} t (omega arith))
