-- Words after a command, counted as a pattern counts them.
use Rattle.std.proofs.Common.{◌≡◌, ℕ, ◌-◌, ◌≤◌, List, [], ◌∷◌, length, get_or, take, drop, take_all, Bor, sym, ap, refl, arith}
use Rattle.script.specs.Words.{texts}
use Rattle.script.specs.Meaning.{of_one, of_two, of_three, of_some}

abbrev pub Words : Type 0
Words = List (Bor (List ℕ))

pub of_one_at : {A : Type 0} (ws : Words) (d : Bor (List ℕ)) (f : List ℕ → A) (others : A) → length ws ≡ 1 → of_one (texts ws) f others ≡ f (get_or ws 0 d).now
of_one_at [] d f others e = absurd (omega arith)
of_one_at (a ∷ []) d f others e = refl
of_one_at (a ∷ b ∷ ws) d f others e = absurd (omega arith)

pub of_one_not : {A : Type 0} (ws : Words) (f : List ℕ → A) (others : A) → (length ws ≡ 1 → ⊥) → of_one (texts ws) f others ≡ others
of_one_not [] f others e = refl
of_one_not (a ∷ []) f others e = absurd (e refl)
of_one_not (a ∷ b ∷ ws) f others e = refl

pub of_two_at : {A : Type 0} (ws : Words) (d : Bor (List ℕ)) (f : List ℕ → List ℕ → A) (others : A) → length ws ≡ 2
    → of_two (texts ws) f others ≡ f (get_or ws 0 d).now (get_or ws 1 d).now
of_two_at [] d f others e = absurd (omega arith)
of_two_at (a ∷ []) d f others e = absurd (omega arith)
of_two_at (a ∷ b ∷ []) d f others e = refl
of_two_at (a ∷ b ∷ c ∷ ws) d f others e = absurd (omega arith)

pub of_two_not : {A : Type 0} (ws : Words) (f : List ℕ → List ℕ → A) (others : A) → (length ws ≡ 2 → ⊥) → of_two (texts ws) f others ≡ others
of_two_not [] f others e = refl
of_two_not (a ∷ []) f others e = refl
of_two_not (a ∷ b ∷ []) f others e = absurd (e refl)
of_two_not (a ∷ b ∷ c ∷ ws) f others e = refl

pub of_three_at : {A : Type 0} (ws : Words) (d : Bor (List ℕ)) (f : List ℕ → List ℕ → List ℕ → A) (others : A) → length ws ≡ 3
    → of_three (texts ws) f others ≡ f (get_or ws 0 d).now (get_or ws 1 d).now (get_or ws 2 d).now
of_three_at [] d f others e = absurd (omega arith)
of_three_at (a ∷ []) d f others e = absurd (omega arith)
of_three_at (a ∷ b ∷ []) d f others e = absurd (omega arith)
of_three_at (a ∷ b ∷ c ∷ []) d f others e = refl
of_three_at (a ∷ b ∷ c ∷ g ∷ ws) d f others e = absurd (omega arith)

pub of_three_not : {A : Type 0} (ws : Words) (f : List ℕ → List ℕ → List ℕ → A) (others : A) → (length ws ≡ 3 → ⊥) → of_three (texts ws) f others ≡ others
of_three_not [] f others e = refl
of_three_not (a ∷ []) f others e = refl
of_three_not (a ∷ b ∷ []) f others e = refl
of_three_not (a ∷ b ∷ c ∷ []) f others e = absurd (e refl)
of_three_not (a ∷ b ∷ c ∷ g ∷ ws) f others e = refl

pub of_some_at : {A : Type 0} (ws : Words) (d : Bor (List ℕ)) (f : List ℕ → List (List ℕ) → A) (none : A) → 1 ≤ length ws
    → of_some (texts ws) f none ≡ f (get_or ws 0 d).now (texts (take (length ws - 1) (drop 1 ws)))
of_some_at [] d f none e = absurd (omega arith)
of_some_at (a ∷ ws) d f none e = ap (λ v. f a.now (texts v)) (sym (take_all (length (a ∷ ws) - 1) ws (omega arith)))

pub of_some_not : {A : Type 0} (ws : Words) (f : List ℕ → List (List ℕ) → A) (none : A) → length ws ≡ 0 → of_some (texts ws) f none ≡ none
of_some_not [] f none e = refl
of_some_not (a ∷ ws) f none e = absurd (omega arith)
