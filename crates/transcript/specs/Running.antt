-- The loop over the calls: what is still to be put, from each call on. It begins from a plan in shape; each call keeps the state's shape,
-- so that the machine's step for what is in shape is its step. Assumes nothing.
use Rattle.std.specs.Prelude.{◌≡◌, ℕ, suc, ◌+◌, ◌-◌, ◌*◌, ◌≤◌, ◌<◌, eqb, ltb, length, drop}
use Rattle.std.proofs.Math.Path.{refl, ap}
use Rattle.std.proofs.Common.{sym, ◌∙◌, arith, add-one, lt-ltb, le-ltb, eq-eqb, ne_eqb, length-drop, drop-cons}
use mathlib.Core.List.{List, [], ◌∷◌, ◌++◌, append_assoc}
use Rattle.std.proofs.Math.Decide.{dec_lt}
use Rattle.loops.specs.Choice.{at, if, if_true, if_false}
use Rattle.plan.specs.declared.Plan.{Plan}
use Rattle.plan.specs.Faults.{InShape}
use Rattle.numerals.specs.LittleEndian.{two_bytes}
use Rattle.state.specs.declared.State.{State}
use Rattle.machine.specs.Answers.{Turned}
use Rattle.machine.specs.States.{fresh, Sized, StateInShape}
use Rattle.machine.specs.Calls.{both_fit, refused, open_in_shape, look_in_shape, fire_in_shape, step_in_shape, step_call}
use Rattle.machine.specs.Runs.{Call, turn, replies}
use Rattle.machine.specs.ShapeTest.{both_fit_exactly}
use Rattle.machine.specs.KeptByCalls.{fresh_kept}
use Rattle.machine.specs.ShapeKept.{kept_exactly, shape_kept_in_shape}
use Rattle.lines.specs.Words.{cut_line}
use Rattle.transcript.specs.Text.{lines, calls_in, left_over, calls_text}
use Rattle.lines.specs.Lines.{line}
use Rattle.numerals.specs.Writing.{Put, put_none, put_then, put_same}

-- the bytes at a place as a call: code, process, and two bytes of edge
unfoldable pub call_at : List ℕ → ℕ → Call
call_at bytes place = record { code = at bytes place; process = at bytes (place + 1); edge = two_bytes bytes (place + 2) }

-- what the bytes left over print, by how many they are
unfoldable pub cut_if : ℕ → List ℕ
cut_if left = if (eqb left 0) [] cut_line

pub put_no_cut : {l : List ℕ} {i : ℕ} (left : ℕ) → left ≡ 0 → Put l i (cut_if left) l i
unfolding cut_if
put_no_cut left e = put_same (sym (if_true (eqb left 0) [] cut_line (eq-eqb left 0 e))) (put_none _ _)

pub put_cut : {l m : List ℕ} {i j : ℕ} (left : ℕ) → (left ≡ 0 → ⊥) → Put l i cut_line m j → Put l i (cut_if left) m j
unfolding cut_if
put_cut left f p = put_same (sym (if_false (eqb left 0) [] cut_line (ne_eqb left 0 f))) p

-- ---- the text of calls, call by call
four_more : (bytes : List ℕ) (i : ℕ) → i + 4 ≤ length bytes
    → drop i bytes ≡ at bytes i ∷ at bytes (i + 1) ∷ at bytes (i + 2) ∷ at bytes (i + 2 + 1) ∷ drop (i + 4) bytes
four_more bytes i h =
    next i (omega arith) ∙ ap (λ (l : List ℕ). at bytes i ∷ l) (next (i + 1) (omega arith)
    ∙ ap (λ (l : List ℕ). at bytes (i + 1) ∷ l) (there (i + 1 + 1) (i + 2) (omega arith) ∙ next (i + 2) (omega arith)
    ∙ ap (λ (l : List ℕ). at bytes (i + 2) ∷ l) (next (i + 2 + 1) (omega arith)
    ∙ ap (λ (l : List ℕ). at bytes (i + 2 + 1) ∷ l) (there (i + 2 + 1 + 1) (i + 4) (omega arith)))))
  where
    next : (k : ℕ) → k < length bytes → drop k bytes ≡ at bytes k ∷ drop (k + 1) bytes
    next k l = drop-cons bytes k 0 l ∙ ap (λ (n : ℕ). at bytes k ∷ drop n bytes) (sym (add-one k))

    there : (j k : ℕ) → j ≡ k → drop j bytes ≡ drop k bytes
    there j k e = ap (λ (n : ℕ). drop n bytes) e

module _ (pl : Plan) (st : State) (index : ℕ) where
  one_call : (a b c d : ℕ) (others : List ℕ)
      → let call : Call = record { code = a; process = b; edge = c + 256 * d } in
      calls_text pl st index (a ∷ b ∷ c ∷ d ∷ others)
      ≡ line index (turn pl st call).reply ++ calls_text pl (turn pl st call).state (suc index) others
  unfolding calls_text calls_in left_over replies lines
  one_call a b c d others =
      let call : Call = record { code = a; process = b; edge = c + 256 * d } in
      append_assoc (line index (turn pl st call).reply) (lines (suc index) (replies pl (turn pl st call).state (calls_in others))) (left_over others)

  pub next_call : (bytes : List ℕ) (i : ℕ) → i + 4 ≤ length bytes
      → calls_text pl st index (drop i bytes)
      ≡ line index (turn pl st (call_at bytes i)).reply ++ calls_text pl (turn pl st (call_at bytes i)).state (suc index) (drop (i + 4) bytes)
  unfolding call_at two_bytes
  next_call bytes i h = ap (calls_text pl st index) (four_more bytes i h) ∙ one_call _ _ _ _ _

  no_call : (bytes : List ℕ) → length bytes < 4 → calls_text pl st index bytes ≡ cut_if (length bytes)
  unfolding calls_text calls_in left_over replies lines cut_if if
  no_call [] h = refl
  no_call (a ∷ []) h = refl
  no_call (a ∷ b ∷ []) h = refl
  no_call (a ∷ b ∷ c ∷ []) h = refl
  no_call (a ∷ b ∷ c ∷ d ∷ others) h = absurd (omega arith)

  pub last_bytes : (bytes : List ℕ) (i : ℕ) → length bytes < i + 4 → calls_text pl st index (drop i bytes) ≡ cut_if (length bytes - i)
  last_bytes bytes i h = no_call (drop i bytes) (omega (arith, length-drop i bytes)) ∙ ap cut_if (length-drop i bytes)

-- ---- a step from a plan and a state in shape
code_26 : (pl : Plan) (st : State) (code p e : ℕ) → 2 < code → step_in_shape pl st code p e ≡ refused 26 st
unfolding step_in_shape
code_26 pl st code p e h =
    if_false (eqb code 0) (open_in_shape pl st p) _ (ne_eqb code 0 (λ q. omega arith))
    ∙ if_false (eqb code 1) (look_in_shape pl st p e) _ (ne_eqb code 1 (λ q. omega arith))
    ∙ if_false (eqb code 2) (fire_in_shape pl st p) _ (ne_eqb code 2 (λ q. omega arith))

pub step_same : (pl : Plan) (st : State) → InShape pl → StateInShape pl st → (code p e : ℕ)
    → step_in_shape pl st code p e ≡ step_call pl st code p e
unfolding step_call
step_same pl st shape state code p e =
    elim (dec_lt 2 code) [
      | yes h ↦ code_26 pl st code p e h ∙ sym (if_true (ltb 2 code) _ _ (lt-ltb 2 code h))
      | no h ↦
          sym (if_false (ltb 2 code) (refused 26 st) (if (both_fit pl st) (step_in_shape pl st code p e) (refused 25 st)) (le-ltb 2 code (omega arith))
          ∙ if_true (both_fit pl st) _ _ ((both_fit_exactly pl st).1 (shape, state)))
    ]

-- ---- the invariant at a call
pub record Running (pl : Plan) (calls out₀ : List ℕ) (place₀ index i : ℕ) (st : State) (out : List ℕ) (place : ℕ) : Type 0 where
  pub index_is : i ≡ 4 * index
  pub within : i ≤ length calls
  pub in_shape : StateInShape pl st
  pub sized : Sized st
  pub few : place ≤ place₀ + 25 * index
  -- where the text from this call on is put, the whole is put
  pub whole : (m : List ℕ) (j : ℕ) → Put out place (calls_text pl st index (drop i calls)) m j → Put out₀ place₀ (calls_text pl fresh 0 calls) m j

module _ (pl : Plan) (shape : InShape pl) (calls out₀ : List ℕ) (place₀ : ℕ) where
  -- before the first call, on a fresh state
  pub running_begin : Running pl calls out₀ place₀ 0 0 fresh out₀ place₀
  running_begin =
      record {
        index_is = refl;
        within = omega arith;
        in_shape = ((kept_exactly pl shape fresh).0 (fresh_kept pl shape)).0;
        sized = ((kept_exactly pl shape fresh).0 (fresh_kept pl shape)).1;
        few = omega arith;
        whole = λ m j p. p;
      }

  -- a call: its line is put
  pub running_more : {index i place n : ℕ} {st : State} {out after : List ℕ} (turned : Turned) → Running pl calls out₀ place₀ index i st out place
      → i + 4 ≤ length calls → (code process edge : ℕ) → code ≡ at calls i → process ≡ at calls (i + 1) → edge ≡ two_bytes calls (i + 2)
      → turned ≡ step_in_shape pl st code process edge → Put out place (line index turned.reply) after n → n ≤ place + 25
      → Running pl calls out₀ place₀ (index + 1) (i + 4) turned.state after n
  unfolding turn call_at
  running_more {index} {i} {place} {n} {st} {out} {after} turned r h code process edge is_code is_process is_edge made p l =
      let e : turned ≡ step_in_shape pl st (at calls i) (at calls (i + 1)) (two_bytes calls (i + 2)) =
      made ∙ rw (is_code, is_process, is_edge) in
      let kept = shape_kept_in_shape pl shape st r.in_shape r.sized (at calls i) (at calls (i + 1)) (two_bytes calls (i + 2)) in
      let same : turned ≡ turn pl st (call_at calls i) = e ∙ step_same pl st shape r.in_shape (at calls i) (at calls (i + 1)) (two_bytes calls (i + 2)) in
      record {
        index_is = omega (arith, r.index_is);
        within = h;
        in_shape = rw e kept.0;
        sized = rw e kept.1;
        few = omega (arith, r.few);
        whole = λ m j q.
            r.whole m j (put_same (sym (next_call pl st index calls i h ∙ rw (← same, ← add-one))) (put_then p q));
      }

  -- past the last call: what is left over is put
  pub running_over : {index i place n : ℕ} {st : State} {out after : List ℕ} → Running pl calls out₀ place₀ index i st out place
      → length calls < i + 4 → Put out place (cut_if (length calls - i)) after n → Put out₀ place₀ (calls_text pl fresh 0 calls) after n
  running_over {index} {i} {st = st} r h p = r.whole _ _ (put_same (sym (last_bytes pl st index calls i h)) p)
