-- A chip as an outline shows it that need not be true of it, its image made to the outline's length; nothing else rests on this file.
use Rattle.std.specs.Prelude.{◌≡◌, ℕ, ◌+◌, ◌-◌, ◌<◌, not, ◌&&◌, ◌==◌, cond, List, ◌++◌, length, take, replicate, slice_index, refl}
use Rattle.std.proofs.Common.{ap, ◌∙◌, ⊎_elim, arith, length-append}
use Rattle.std.proofs.lemmas.List.{take_at, get_or-take, get_or_past, get_or_append_left, get_or-append_right, length-take-le, length-replicate, get_or-replicate}
use Rattle.std.proofs.lemmas.Bool.{cases_lt}
use Rattle.memory.specs.Shape.{size}
use Rattle.port.specs.Chip as of_chip
use Rattle.port.specs.Chip.{Chip}
use Rattle.port.specs.Machine.{waited}
use Rattle.part.specs.declared.outline.Outline.{Outline}
use Rattle.part.specs.Meaning.{Meaning, Sound, waited as waited_part}
use Rattle.part.specs.Outline.{outlined, guards}
use Rattle.part.specs.PlainLemmas.{length-guards}
use Rattle.driver.specs.Driving.{Intact, seen}
use Rattle.driver.proofs.Driven.{seen_poll}

-- an image made to a length: cut, or FFh after its end
unfoldable pub fitted : ℕ → List ℕ → List ℕ
fitted n image = take n (image ++ replicate n 255)

-- the chip as the outline shows it, whether that is true of it or not
abbrev pub fitted_seen : Outline → Chip → Meaning
fitted_seen o c = record {
  shape = outlined o;
  image = fitted (size (outlined o)) c.image;
  guarded = guards o.status.bits o.geometry.sectors;
  due = cond o.busy (c.busy + 1) 0;
}

length_padded : (n : ℕ) (l : List ℕ) → length (l ++ replicate n 255) ≡ length l + n
length_padded n l = let r : length (replicate {A = ℕ} n 255) ≡ n = length-replicate n 255 in length-append l (replicate n 255) ∙ omega arith

pub length-fitted : (n : ℕ) (l : List ℕ) → length (fitted n l) ≡ n
unfolding fitted
length-fitted n l = let p = length_padded n l in length-take-le n (l ++ replicate n 255) (omega arith)

-- an image of that length stays as it is
pub fitted_same : (n : ℕ) (l : List ℕ) → length l ≡ n → fitted n l ≡ l
unfolding fitted
fitted_same n l e = take_at l (replicate n 255) n e

byte_filled : (n i : ℕ) → slice_index (replicate n 255) i < 256
byte_filled n i = ⊎_elim
    (λ h. let e : slice_index (replicate n 255) i ≡ 255 = get_or-replicate n i 255 0 h in omega arith)
    (λ h. let r : length (replicate {A = ℕ} n 255) ≡ n = length-replicate n 255 in
    let e : slice_index (replicate n 255) i ≡ 0 = get_or_past (replicate n 255) i 0 (omega arith) in omega arith)
    (cases_lt i n)

byte_padded : (n : ℕ) (l : List ℕ) (i : ℕ) → ((k : ℕ) → slice_index l k < 256) → slice_index (l ++ replicate n 255) i < 256
byte_padded n l i b = ⊎_elim
    (λ h. let e = get_or_append_left l (replicate n 255) 0 i h in omega (arith, b i))
    (λ h. let e = get_or-append_right l (replicate n 255) (length l) i 0 refl h in let f = byte_filled n (i - length l) in omega arith)
    (cases_lt i (length l))

pub byte-fitted : (n : ℕ) (l : List ℕ) → ((k : ℕ) → slice_index l k < 256) → (i : ℕ) → slice_index (fitted n l) i < 256
unfolding fitted
byte-fitted n l b i = ⊎_elim
    (λ h. let e = get_or-take n (l ++ replicate n 255) i 0 h in omega (arith, byte_padded n l i b))
    (λ h. let m = length-fitted n l in let e = get_or_past (take n (l ++ replicate n 255)) i 0 (omega arith) in omega arith)
    (cases_lt i n)

-- what the outline shows is sound, true or not
pub fitted-sound : (o : Outline) (c : Chip) → of_chip.Sound c → Sound (fitted_seen o c)
fitted-sound o c s = record {
  some = o.geometry.some;
  few = o.geometry.few;
  paged = o.geometry.paged;
  low = o.geometry.low;
  page = refl;
  each = length-guards o.status.bits o.geometry.sectors;
  imaged = record { whole = length-fitted (size (outlined o)) c.image; bytes = byte-fitted (size (outlined o)) c.image s.imaged.bytes };
}

-- where the outline is true of the chip, that is the chip as it is
pub fitted-image : (o : Outline) (c : Chip) → of_chip.Sound c → Intact o c → (fitted_seen o c).image ≡ c.image
fitted-image o c s i = fitted_same (size (outlined o)) c.image (s.imaged.whole ∙ ap size i.shape)

pub fitted_is : (o : Outline) (c : Chip) → of_chip.Sound c → Intact o c → fitted_seen o c ≡ seen o c
fitted_is o c s i =
    ap (λ (l : List ℕ). record { shape = outlined o; image = l; guarded = guards o.status.bits o.geometry.sectors; due = cond o.busy (c.busy + 1) 0 })
    (fitted-image o c s i)

pub fitted_poll : (o p : Outline) (c d : Chip) → outlined p ≡ outlined o → p.status.bits ≡ o.status.bits → p.busy ≡ (o.busy && not (c.busy == 0)) → d ≡ waited c
    → fitted_seen p d ≡ waited_part (fitted_seen o c)
fitted_poll o p c d s t b e =
    ap (λ (m : Meaning). record { shape = m.shape; image = fitted (size m.shape) m.image; guarded = m.guarded; due = m.due }) (seen_poll o p c d s t b e)
