-- Processes as an abstract notion (01, "Marked graph and conditions"). Definitions only.
-- Assumes nothing.
use Rattle.std.specs.Prelude.{◌≡◌, List, ◌≢◌, ℕ, suc, ◌+◌, ◌-◌, ◌<◌, min}
use Rattle.net.specs.Graph.{Graph, firings}

-- an edge from m to n that starts with t tokens
abbrev pub Edge : Graph → ℕ → ℕ → ℕ → Type 0
Edge G m n t = (e : ℕ) × (e < G.edges) × (G.source e ≡ m) × (G.destination e ≡ n) × (G.tokens e ≡ t)

-- 01: "Processes are disjoint simple cycles that cover all nodes. The edge from a process's last node to its first starts with
-- one token, its other process edges with none. A process may be one node with one edge to itself."
-- Process p has `length p` nodes; `node p j` is the one that fires j-th in its round.
pub record Processes (G : Graph) (processes : ℕ) (length : ℕ → ℕ) (node : ℕ → ℕ → ℕ) : Type 0 where
  -- a cycle has a node
  pub some : (p : ℕ) → p < processes → 0 < length p
  -- its nodes are the graph's
  pub inside : (p : ℕ) → p < processes → (j : ℕ) → j < length p → node p j < G.nodes
  -- disjoint and simple: no node stands at two seats
  pub apart : (p q : ℕ) → p < processes → q < processes → (i j : ℕ) → i < length p → j < length q → node p i ≡ node q j → (p ≡ q) × (i ≡ j)
  -- every node stands at one
  pub cover : (v : ℕ) → v < G.nodes → (p : ℕ) × (j : ℕ) × (p < processes) × (j < length p) × (node p j ≡ v)
  -- the edge from each node of a process to the next holds no token
  pub on : (p : ℕ) → p < processes → (j : ℕ) → suc j < length p → Edge G (node p j) (node p (suc j)) 0
  -- the edge from the last to the first holds one
  pub closing : (p : ℕ) → p < processes → (j : ℕ) → suc j ≡ length p → Edge G (node p j) (node p 0) 1

-- The same with the process and the seat of each node as functions: what the laws are stated over.
pub record Seats (G : Graph) : Type 0 where
  pub processes : ℕ
  pub length : ℕ → ℕ
  pub node : ℕ → ℕ → ℕ
  -- the process of a node, and its seat in that process's round
  pub home : ℕ → ℕ
  pub seat : ℕ → ℕ
  pub home_lt : (v : ℕ) → v < G.nodes → home v < processes
  pub seat_lt : (v : ℕ) → v < G.nodes → seat v < length (home v)
  pub node_of : (v : ℕ) → v < G.nodes → node (home v) (seat v) ≡ v
  pub node_lt : (p : ℕ) → p < processes → (j : ℕ) → j < length p → node p j < G.nodes
  pub home_node : (p : ℕ) → p < processes → (j : ℕ) → j < length p → home (node p j) ≡ p
  pub seat_node : (p : ℕ) → p < processes → (j : ℕ) → j < length p → seat (node p j) ≡ j
  pub on : (v : ℕ) → v < G.nodes → suc (seat v) < length (home v) → Edge G v (node (home v) (suc (seat v))) 0
  pub closing : (v : ℕ) → v < G.nodes → suc (seat v) ≡ length (home v) → Edge G v (node (home v) 0) 1

-- 1 where seat j is before position i, otherwise 0
abbrev pub before : ℕ → ℕ → ℕ
before j i = min 1 (i - j)

module _ (G : Graph) (S : Seats G) where
  -- each process p has gone round `rounds p` times and stands at `position p`: its nodes' firings are its rounds and its position
  pub record Standing (rounds position : ℕ → ℕ) (s : List ℕ) : Type 0 where
    pub fits : (p : ℕ) → p < S.processes → position p < S.length p
    pub fired : (v : ℕ) → v < G.nodes → firings v s ≡ rounds (S.home v) + before (S.seat v) (position (S.home v))

  -- v is the next node of its process
  abbrev pub Next : (ℕ → ℕ) → ℕ → Type 0
  Next position v = S.seat v ≡ position (S.home v)

  -- what a firing of v does to rounds and positions: v's process moves to the next seat, the last going to the first; the others stay
  pub record Moved (v : ℕ) (rounds position rounds' position' : ℕ → ℕ) : Type 0 where
    pub others : (p : ℕ) → p ≢ S.home v → (rounds' p ≡ rounds p) × (position' p ≡ position p)
    pub onward : suc (S.seat v) < S.length (S.home v) → (rounds' (S.home v) ≡ rounds (S.home v)) × (position' (S.home v) ≡ suc (position (S.home v)))
    pub round : suc (S.seat v) ≡ S.length (S.home v) → (rounds' (S.home v) ≡ suc (rounds (S.home v))) × (position' (S.home v) ≡ 0)

  -- 01: "Another edge inside one process (a chord)": both ends in one process
  abbrev pub Inner : ℕ → Type 0
  Inner e = S.home (G.source e) ≡ S.home (G.destination e)

  -- 01: "An edge is synchronising when its ends are in different processes."
  abbrev pub Synchronising : ℕ → Type 0
  Synchronising e = S.home (G.source e) ≢ S.home (G.destination e)
