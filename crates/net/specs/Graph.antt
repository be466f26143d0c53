-- Lamport's marked graphs (000, sections 2 and 3.2) in the words of 01. Definitions only.
-- Assumes nothing.
use Rattle.std.specs.Prelude.{◌≡◌, List, [], ◌∷◌, ℕ, ◌+◌, ◌-◌, ◌≤◌, ◌<◌, eqb, length}
use Rattle.loops.specs.Choice.{one_if}

-- 01: "Nodes, and directed edges as ordered pairs." Nodes are numbered below `nodes`, edges below `edges`; `tokens` are those at the start.
pub record Graph : Type 0 where
  pub nodes : ℕ
  pub edges : ℕ
  pub source : ℕ → ℕ
  pub destination : ℕ → ℕ
  pub tokens : ℕ → ℕ

-- 000: "a placement of tokens on its edges, called a marking".
abbrev pub Marking : Type 0
Marking = ℕ → ℕ

-- 1 where the two numbers are the same, otherwise 0
unfoldable pub one_if_same : ℕ → ℕ → ℕ
one_if_same a b = one_if (eqb a b)

-- how often a node stands in a list of firings: 000's number of times that it has fired
unfoldable pub firings : ℕ → List ℕ → ℕ
firings n [] = 0
firings n (m ∷ s) = one_if_same n m + firings n s

-- the tokens that a marking puts on a list of edges
unfoldable pub tokens_on : Marking → List ℕ → ℕ
tokens_on μ [] = 0
tokens_on μ (e ∷ es) = μ e + tokens_on μ es

-- both ends of every edge are nodes
pub record Shaped (G : Graph) : Type 0 where
  pub source_lt : (e : ℕ) → e < G.edges → G.source e < G.nodes
  pub destination_lt : (e : ℕ) → e < G.edges → G.destination e < G.nodes

module _ (G : Graph) where
  -- 01: "A node may fire when each in-edge holds a token".
  unfoldable pub Fireable : Marking → ℕ → Type 0
  Fireable μ n = (e : ℕ) → e < G.edges → G.destination e ≡ n → 0 < μ e

  -- 01: "firing takes one from each in-edge and adds one to each out-edge. A node with an edge to itself loses and regains one there."
  unfoldable pub fire : ℕ → Marking → Marking
  fire n μ e = (μ e - one_if_same (G.destination e) n) + one_if_same (G.source e) n

  -- the marking after the firings of a list, the first one first
  unfoldable pub after : Marking → List ℕ → Marking
  after μ [] = μ
  after μ (n ∷ s) = after (fire n μ) s

  -- 000: "each obtained from the previous one by firing a fireable node".
  unfoldable pub Legal : Marking → List ℕ → Type 0
  Legal μ [] = Unit {0}
  Legal μ (n ∷ s) = (n < G.nodes) × Fireable μ n × Legal (fire n μ) s

  -- a route from m to n is a list of edges, each starting where the one before it ends; the empty one leads from a node to itself
  unfoldable pub Route : ℕ → List ℕ → ℕ → Type 0
  Route m [] n = m ≡ n
  Route m (e ∷ es) n = (e < G.edges) × (G.source e ≡ m) × Route (G.destination e) es n

  -- 01: "The emptiest route's tokens are the least sum over all routes".
  pub record Emptiest (μ : Marking) (m n d : ℕ) : Type 0 where
    pub some : (es : List ℕ) × Route m es n × (tokens_on μ es ≡ d)
    pub least : (es : List ℕ) → Route m es n → d ≤ tokens_on μ es

  -- there is a route from m to n
  abbrev pub Linked : ℕ → ℕ → Type 0
  Linked m n = (es : List ℕ) × Route m es n

  -- a cycle through v: a route of at least one edge from v to v
  abbrev pub Cycle : ℕ → List ℕ → Type 0
  Cycle v es = Route v es v × (0 < length es)

  -- a route from m to n without tokens
  abbrev pub TokenFree : Marking → ℕ → ℕ → Type 0
  TokenFree μ m n = (es : List ℕ) × Route m es n × (tokens_on μ es ≡ 0)

  -- 01, C0: "every cycle holds a token".
  unfoldable pub EveryCycleHolds : Marking → Type 0
  EveryCycleHolds μ = (v : ℕ) (es : List ℕ) → Cycle v es → 0 < tokens_on μ es
