-- Cycles that closed sectors bar, and those that they let pass.
use Rattle.std.specs.Prelude.{◌≡◌, ℕ, ◌<◌, Bool, true, false, cond, not, ◌&&◌, ◌||◌, List, length, Some, None, Ok, Err, Result, unwrap_or, nat_le, nat_lt, refl}
use Rattle.std.proofs.Common.{sym, ap, ap₂, ◌∙◌, arith}
use Rattle.std.proofs.Math.Bool.{not-not}
use Rattle.std.proofs.lemmas.Bool.{true≢false, ltb-true, not-true, not-false, not_from_true}
use Rattle.memory.specs.declared.kind.Kind.{Kind}
use Rattle.memory.specs.declared.kind.Kind.TheVariants.{Program, Alter, Preset, SectorErase, BulkErase}
use Rattle.memory.specs.Shape.{Shape, shaped, size, sector_at}
use Rattle.memory.specs.Cycle.{permits}
use Rattle.memory.proofs.Pages.{page_and_sector}
use Rattle.part.specs.declared.fault.PartFault.{PartFault}
use Rattle.part.specs.declared.fault.PartFault.TheVariants.{Outside, NoSector, PageData, Busy, Protected, NotBlank}
use Rattle.part.specs.Meaning.{Meaning, Sound, protected_at}
use Rattle.part.proofs.Sounds.{real}
use Rattle.part.specs.Verdict.{check, inside, takes_length, presets, told_address, form_refusal, idle, verdict_if, protection}
use Rattle.fence.specs.Closed.{fenced, is_closed, bars}
use Rattle.fence.proofs.Marks.{either_at, either-closed, either_open, free_open, free-closed}

-- how a cycle that closed sectors bar is refused: the checks before protection come first
abbrev barred_by : Shape → Bool → Kind → ℕ → ℕ → PartFault
barred_by m idle kind address n =
    cond (inside m kind address)
    (cond (takes_length m kind n) (cond idle (Protected (told_address kind address)) Busy) (PageData n))
    (Outside address)

-- every page has 64 bytes
pub takes_length-page : (m : Shape) (kind : Kind) (n : ℕ) → m.bytes ≡ 64 → takes_length m kind n ≡ takes_length (shaped 0 0) kind n
takes_length-page m Program n e = ap (λ z. nat_lt 0 n && nat_le n z) e
takes_length-page m Alter n e = ap (λ z. nat_lt 0 n && nat_le n z) e
takes_length-page m Preset n e = ap (λ z. nat_lt 0 n && nat_le n z) e
takes_length-page m SectorErase n e = refl
takes_length-page m BulkErase n e = refl

module _ (m : Shape) (idle : Bool) (kind : Kind) (address n : ℕ) where
  -- what is told is the first of the checks before protection that fails, and else the protection
  pub barred-form : m.bytes ≡ 64 → barred_by m idle kind address n ≡ unwrap_or (form_refusal (size m) idle kind address n) (Protected (told_address kind address))
  barred-form e =
      first (inside m kind address) (takes_length m kind n) idle (Outside address) (PageData n) Busy (Protected (told_address kind address))
      ∙ ap (λ f. unwrap_or (check (inside m kind address) (Outside address) (check f (PageData n) (check idle Busy None))) (Protected (told_address kind address)))
      (takes_length-page m kind n e)
    where
      first : (i f d : Bool) (x y z v : PartFault) → cond i (cond f (cond d v z) y) x ≡ unwrap_or (check i x (check f y (check d z None))) v
      first true true true x y z v = refl
      first true true false x y z v = refl
      first true false d x y z v = refl
      first false f d x y z v = refl

-- the four checks, of which the last fails wherever the first passes
stopped : (i f d p b : Bool) (x y z v w : PartFault) → (i ≡ true → p ≡ false)
    → check i x (check f y (check d z (check p v (check b w None)))) ≡ Some (cond i (cond f (cond d v z) y) x)
stopped true true true true b x y z v w h = absurd (true≢false (h refl))
stopped true true true false b x y z v w h = refl
stopped true true false p b x y z v w h = refl
stopped true false d p b x y z v w h = refl
stopped false f d p b x y z v w h = refl

-- the sector of an address that is inside is there
pub sector_in : (m : Meaning) → Sound m → (address : ℕ) → nat_lt address (size m.shape) ≡ true → sector_at m.shape address < length m.guarded
sector_in m S address h = omega (arith, S.each, (page_and_sector m.shape (real m S) address (ltb-true _ _ h)).1)

module _ (m : Meaning) (S : Sound m) (closed : List Bool) where
  -- a sector is protected if the part protects it or it is closed
  pub fenced-protection :
      (sector : ℕ) (b d : Bool) → Ok b ≡ protection m sector → d ≡ (b || is_closed closed sector) → Ok d ≡ protection (fenced m closed) sector
  fenced-protection sector b d e f = go (nat_lt sector m.shape.sectors) refl e
    where
      go :
          (t : Bool) → nat_lt sector m.shape.sectors ≡ t
          → ◌≡◌ {A = Result Bool PartFault} (Ok b) (cond t (Ok (protected_at m sector)) (Err (NoSector sector)))
          → ◌≡◌ {A = Result Bool PartFault} (Ok d) (cond t (Ok (protected_at (fenced m closed) sector)) (Err (NoSector sector)))
      go true t h =
          let u : b ≡ protected_at m sector = cc in
          ap Ok
          (f
          ∙ (ap (λ x. x || is_closed closed sector) u
          ∙ sym (either_at m.guarded closed sector (omega (arith, S.each, ltb-true _ _ t)))))
      go false t h = let z : ◌≡◌ {A = ℕ} 0 1 = cc in absurd (omega arith)

  barred-permits :
      (kind : Kind) (address : ℕ) → bars m.shape closed kind address ≡ true → inside m.shape kind address ≡ true
      → permits m.shape (protected_at (fenced m closed)) kind address ≡ false
  barred-permits Program address b i = not_from_true _ (either-closed m.guarded closed _ (sector_in m S address i) b)
  barred-permits Alter address b i = not_from_true _ (either-closed m.guarded closed _ (sector_in m S address i) b)
  barred-permits Preset address b i = not_from_true _ (either-closed m.guarded closed _ (sector_in m S address i) b)
  barred-permits SectorErase address b i = not_from_true _ (either-closed m.guarded closed _ (sector_in m S address i) b)
  barred-permits BulkErase address b i = free-closed m.guarded closed m.shape.sectors S.each (not-true _ b)

  -- a cycle that a closed sector bars is refused as said
  pub barred-verdict :
      (clean : Bool) (kind : Kind) (address : ℕ) (sent : List ℕ) → bars m.shape closed kind address ≡ true
      → verdict_if (fenced m closed) clean kind address sent ≡ Some (barred_by m.shape (idle m) kind address (length sent))
  barred-verdict clean kind address sent b =
      stopped (inside m.shape kind address) (takes_length m.shape kind (length sent)) (idle m)
      (permits m.shape (protected_at (fenced m closed)) kind address) (presets kind clean) (Outside address) (PageData (length sent)) Busy
      (Protected (told_address kind address)) (NotBlank address) (barred-permits kind address b)

  -- with the protection told where the checks before it are passed
  pub formed-verdict :
      (clean : Bool) (kind : Kind) (address : ℕ) (sent : List ℕ) → bars m.shape closed kind address ≡ true
      → (bytes : ℕ) (busy : Bool) → bytes ≡ size m.shape → busy ≡ not (idle m) → None ≡ form_refusal bytes (not busy) kind address (length sent)
      → verdict_if (fenced m closed) clean kind address sent ≡ Some (Protected (told_address kind address))
  formed-verdict clean kind address sent b bytes busy s i e =
      barred-verdict clean kind address sent b
      ∙ ap Some
      (barred-form m.shape (idle m) kind address (length sent) S.page
      ∙ ap (λ o. unwrap_or o (Protected (told_address kind address)))
      (sym (e ∙ ap₂ (λ x y. form_refusal x y kind address (length sent)) s (ap not i ∙ not-not (idle m)))))

  open_permits :
      (kind : Kind) (address : ℕ) → bars m.shape closed kind address ≡ false
      → permits m.shape (protected_at m) kind address ≡ permits m.shape (protected_at (fenced m closed)) kind address
  open_permits Program address b = ap not (sym (either_open m.guarded closed (sector_at m.shape address) b))
  open_permits Alter address b = ap not (sym (either_open m.guarded closed (sector_at m.shape address) b))
  open_permits Preset address b = ap not (sym (either_open m.guarded closed (sector_at m.shape address) b))
  open_permits SectorErase address b = ap not (sym (either_open m.guarded closed (sector_at m.shape address) b))
  open_permits BulkErase address b = sym (free_open m.guarded closed m.shape.sectors (not-false _ b))

  -- one that none bars is refused as the part refuses it
  pub open_verdict :
      (clean : Bool) (kind : Kind) (address : ℕ) (sent : List ℕ) → bars m.shape closed kind address ≡ false
      → verdict_if m clean kind address sent ≡ verdict_if (fenced m closed) clean kind address sent
  open_verdict clean kind address sent b =
      ap
      (λ p.
      check (inside m.shape kind address) (Outside address)
      (check (takes_length m.shape kind (length sent)) (PageData (length sent))
      (check (idle m) Busy (check p (Protected (told_address kind address)) (check (presets kind clean) (NotBlank address) None)))))
      (open_permits kind address b)
