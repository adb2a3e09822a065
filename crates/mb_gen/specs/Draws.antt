-- What is drawn from a generator of words (this project's choice).
use Rattle.std.specs.Prelude.{ℕ, ◌%◌}

-- a draw: the next word modulo a bound, and the generator behind it
abbrev pub drawn : {G : Type 0} → (G → ℕ × G) → ℕ → G → ℕ × G
drawn step bound draws = ((step draws).0 % bound, (step draws).1)

-- what is made of one draw, of two and of three, and the generator behind them
abbrev pub of_one : {A G : Type 0} → (G → ℕ × G) → ℕ → (ℕ → A) → G → A × G
of_one step bound make draws = (make (drawn step bound draws).0, (drawn step bound draws).1)

abbrev pub of_two : {A G : Type 0} → (G → ℕ × G) → ℕ → ℕ → (ℕ → ℕ → A) → G → A × G
of_two step first second make draws = of_one step second (make (drawn step first draws).0) (drawn step first draws).1

abbrev pub of_three : {A G : Type 0} → (G → ℕ × G) → ℕ → ℕ → ℕ → (ℕ → ℕ → ℕ → A) → G → A × G
of_three step first second third make draws = of_two step second third (make (drawn step first draws).0) (drawn step first draws).1
