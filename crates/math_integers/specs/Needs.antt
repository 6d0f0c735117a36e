-- Needs of a function that stand one behind the other, answered as one tuple, so that one `search` finds them all. In a proof `part-1`,
-- `part-2` and so on are `tie.spec` with its needs up to there answered.
module _ {A₀ A₁ A₂ A₃ : Type 0} {R : Type 2} where
  pub by_4 : (A₀ → A₁ → A₂ → A₃ → R) → A₀ × A₁ × A₂ × A₃ → R
  by_4 f a = f a.0 a.1 a.2 a.3

  module _ {A₄ A₅ A₆ A₇ : Type 0} where
    pub by_8 : (A₀ → A₁ → A₂ → A₃ → A₄ → A₅ → A₆ → A₇ → R) → A₀ × A₁ × A₂ × A₃ × A₄ × A₅ × A₆ × A₇ → R
    by_8 f a = f a.0 a.1 a.2 a.3 a.4 a.5 a.6 a.7

    pub by_12 : {B₀ B₁ B₂ B₃ : Type 0} → (A₀ → A₁ → A₂ → A₃ → A₄ → A₅ → A₆ → A₇ → B₀ → B₁ → B₂ → B₃ → R)
        → A₀ × A₁ × A₂ × A₃ × A₄ × A₅ × A₆ × A₇ × B₀ × B₁ × B₂ × B₃ → R
    by_12 f a = f a.0 a.1 a.2 a.3 a.4 a.5 a.6 a.7 a.8 a.9 a.10 a.11
