-- A reply is of one kind, and says one number.
-- Assumes nothing.
use Rattle.std.specs.Prelude.{◌≡◌, ℕ, ◌≢◌}
use Rattle.std.proofs.Common.{arith}
use Rattle.state.specs.declared.State.{State}
use Rattle.machine.specs.Answers.{Reply}
use Rattle.machine.specs.Answers.{Opened, Found, Wait, Fired, Refused}
use Rattle.machine.specs.Answers.{Turned}

-- a call's answer beside a state
abbrev pub turned : Reply → State → Turned
turned r st = record { reply = r; state = st }

module _ {r : Reply} {m n : ℕ} where
  -- two answers found are of one number
  pub same_found : r ≡ Found m → r ≡ Found n → n ≡ m
  same_found a b = cc

  -- and two answers wait
  pub same_wait : r ≡ Wait m → r ≡ Wait n → n ≡ m
  same_wait a b = cc

  -- and two answers fired
  pub same_fired : r ≡ Fired m → r ≡ Fired n → n ≡ m
  same_fired a b = cc

  -- found is not wait
  pub found_not_wait : r ≡ Found m → r ≢ Wait n
  found_not_wait a b = let z : ◌≡◌ {A = ℕ} 0 1 = cc in omega arith

  -- refused is not found
  pub refused_not_found : r ≡ Refused m → r ≢ Found n
  refused_not_found a b = let z : ◌≡◌ {A = ℕ} 0 1 = cc in omega arith

  -- nor wait
  pub refused_not_wait : r ≡ Refused m → r ≢ Wait n
  refused_not_wait a b = let z : ◌≡◌ {A = ℕ} 0 1 = cc in omega arith

  -- nor fired
  pub refused_not_fired : r ≡ Refused m → r ≢ Fired n
  refused_not_fired a b = let z : ◌≡◌ {A = ℕ} 0 1 = cc in omega arith

module _ {m n : ℕ} where
  -- a refusal has one number
  pub same_refused : Refused m ≡ Refused n → m ≡ n
  same_refused q = cc

  -- opened is none
  pub opened_not_refused : Opened m ≡ Refused n → ⊥
  opened_not_refused q = let z : ◌≡◌ {A = ℕ} 0 1 = cc in omega arith

  -- found is none
  pub found_not_refused : Found m ≡ Refused n → ⊥
  found_not_refused q = let z : ◌≡◌ {A = ℕ} 0 1 = cc in omega arith

  -- wait is none
  pub wait_not_refused : Wait m ≡ Refused n → ⊥
  wait_not_refused q = let z : ◌≡◌ {A = ℕ} 0 1 = cc in omega arith

  -- fired is none
  pub fired_not_refused : Fired m ≡ Refused n → ⊥
  fired_not_refused q = let z : ◌≡◌ {A = ℕ} 0 1 = cc in omega arith
