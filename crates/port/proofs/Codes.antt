-- What the chip hears of the data sheet's frames.
use Rattle.std.proofs.Common.{◌≡◌, ℕ, ◌<◌, ◌≤◌, Bool, true, false, cond, ◌&&◌, eqb, ltb, leb, List, [], ◌∷◌, length, Some, sym, refl, ap, ◌∙◌, subst, arith}
use Rattle.std.proofs.lemmas.Bool.{cond_both, cond-true, cond-false, eq-eqb, eqb-true, ltb-true, leb-true, and_parts, false_from_ne_true, lt-ltb, le-leb}
use Rattle.std.specs.List.{AllByRecursion as All}
use Rattle.memory.specs.Cycle.{program, alter, preset, sector_erase, bulk_erase}
use Rattle.port.specs.declared.instruction.Operation.TheVariants.{Program, Alter, Preset}
use Rattle.port.specs.declared.instruction.Instruction.{Instruction}
use Rattle.port.specs.Instructions.{table, lookup, fits}
use Rattle.port.specs.Build.{listed}
use Rattle.port.specs.Chip.{Chip}
use Rattle.port.specs.Asks.{Ask, enable, disable, status, identify, read, cycle, unknown, heard, inside, polled, ordered, shaped_by, address_in, data_in}
use Rattle.port.specs.Machine.{Frame, frame, hears}
use Rattle.port.specs.Laws.{Hears, spelt, OnChip, Listed, code_06, code_04, code_05, code_9F, code_03, code_0B, code_02, code_22, code_D1, code_D8, code_C7}
use Rattle.port.proofs.Building.{page-frame}

enables : ordered (0x06 ∷ []) 0 ≡ enable
unfolding table
enables = refl

disables : ordered (0x04 ∷ []) 0 ≡ disable
unfolding table
disables = refl

asks : (n : ℕ) → ordered (0x05 ∷ []) n ≡ status
unfolding table
asks n = refl

identified : (n : ℕ) → n ≤ 3 → ordered (0x9F ∷ []) n ≡ identify
unfolding table
identified n h = cond-true _ _ _ (le-leb n 3 h)

reads : (a2 a1 a0 n : ℕ) → ordered (0x03 ∷ a2 ∷ a1 ∷ a0 ∷ []) n ≡ read (spelt a2 a1 a0)
unfolding table
reads a2 a1 a0 n = refl

reads_fast : (a2 a1 a0 dummy n : ℕ) → ordered (0x0B ∷ a2 ∷ a1 ∷ a0 ∷ dummy ∷ []) n ≡ read (spelt a2 a1 a0)
unfolding table
reads_fast a2 a1 a0 dummy n = refl

programs : (a2 a1 a0 x : ℕ) (xs : List ℕ) → ordered (0x02 ∷ a2 ∷ a1 ∷ a0 ∷ x ∷ xs) 0 ≡ cycle (program (spelt a2 a1 a0) (x ∷ xs))
unfolding table listed
programs a2 a1 a0 x xs = page-frame (listed Program) a2 a1 a0 0 (x ∷ xs) refl refl (omega arith)

alters : (a2 a1 a0 x : ℕ) (xs : List ℕ) → ordered (0x22 ∷ a2 ∷ a1 ∷ a0 ∷ x ∷ xs) 0 ≡ cycle (alter (spelt a2 a1 a0) (x ∷ xs))
unfolding table listed
alters a2 a1 a0 x xs = page-frame (listed Alter) a2 a1 a0 0 (x ∷ xs) refl refl (omega arith)

presets : (a2 a1 a0 x : ℕ) (xs : List ℕ) → ordered (0xD1 ∷ a2 ∷ a1 ∷ a0 ∷ x ∷ xs) 0 ≡ cycle (preset (spelt a2 a1 a0) (x ∷ xs))
unfolding table listed
presets a2 a1 a0 x xs = page-frame (listed Preset) a2 a1 a0 0 (x ∷ xs) refl refl (omega arith)

erases : (a2 a1 a0 : ℕ) → ordered (0xD8 ∷ a2 ∷ a1 ∷ a0 ∷ []) 0 ≡ cycle (sector_erase (spelt a2 a1 a0))
unfolding table
erases a2 a1 a0 = refl

erases_all : ordered (0xC7 ∷ []) 0 ≡ cycle bulk_erase
unfolding table
erases_all = refl

-- an order that is asked while busy too
same_heard : (c : Chip) (o : Ask) (s : List ℕ) (n : ℕ) → ordered s n ≡ o → (inside (length c.image) o ≡ o) → (polled o ≡ o) → hears c (frame s n) ≡ o
same_heard c o s n e i p =
    ap (heard c.busy (length c.image)) e ∙ cond_both (eqb c.busy 0) _ _ (λ v. v ≡ o) (λ _. i) (λ _. p)

pub polls : (c : Chip) (n : ℕ) → hears c (frame (0x05 ∷ []) n) ≡ status
polls c n = same_heard c status (0x05 ∷ []) n (asks n) refl refl

module _ (c : Chip) (idle : c.busy ≡ 0) where
  -- an order that is inside
  heard_as : (s : List ℕ) (n : ℕ) (o : Ask) → ordered s n ≡ o → inside (length c.image) o ≡ o → hears c (frame s n) ≡ o
  heard_as s n o e i = cond-true _ _ _ (eq-eqb _ _ idle) ∙ ap (inside (length c.image)) e ∙ i

  pub codes : Hears c
  codes =
      record {
        enables = heard_as (0x06 ∷ []) 0 enable enables refl;
        disables = heard_as (0x04 ∷ []) 0 disable disables refl;
        identified = λ n h. heard_as (0x9F ∷ []) n identify (identified n h) refl;
        reads = λ n a2 a1 a0 h. heard_as (0x03 ∷ a2 ∷ a1 ∷ a0 ∷ []) n _ (reads a2 a1 a0 n) (cond-true _ _ _ (lt-ltb _ _ h));
        reads_fast = λ n d a2 a1 a0 h. heard_as (0x0B ∷ a2 ∷ a1 ∷ a0 ∷ d ∷ []) n _ (reads_fast a2 a1 a0 d n) (cond-true _ _ _ (lt-ltb _ _ h));
        programs = λ x xs a2 a1 a0 h. heard_as (0x02 ∷ a2 ∷ a1 ∷ a0 ∷ x ∷ xs) 0 _ (programs a2 a1 a0 x xs) (cond-true _ _ _ (lt-ltb _ _ h));
        alters = λ x xs a2 a1 a0 h. heard_as (0x22 ∷ a2 ∷ a1 ∷ a0 ∷ x ∷ xs) 0 _ (alters a2 a1 a0 x xs) (cond-true _ _ _ (lt-ltb _ _ h));
        presets = λ x xs a2 a1 a0 h. heard_as (0xD1 ∷ a2 ∷ a1 ∷ a0 ∷ x ∷ xs) 0 _ (presets a2 a1 a0 x xs) (cond-true _ _ _ (lt-ltb _ _ h));
        erases = λ a2 a1 a0 h. heard_as (0xD8 ∷ a2 ∷ a1 ∷ a0 ∷ []) 0 _ (erases a2 a1 a0) (cond-true _ _ _ (lt-ltb _ _ h));
        erases_all = heard_as (0xC7 ∷ []) 0 (cycle bulk_erase) erases_all refl;
      }

-- an instruction of this code does not fit a frame of another shape
abbrev Unfit : ℕ → ℕ → ℕ → Instruction → Type 0
Unfit code after wanted i = i.code ≡ code → fits i after wanted ≡ false

unlisted : (is : List Instruction) (code after wanted address : ℕ) (sent : List ℕ) → All (Unfit code after wanted) is
    → shaped_by (lookup is code) after wanted address sent ≡ unknown
unlisted [] code after wanted address sent h = refl
unlisted (i ∷ is) code after wanted address sent h = go (eqb i.code code) refl (unlisted is code after wanted address sent h.1)
  where
    go : (b : Bool) → eqb i.code code ≡ b → shaped_by (lookup is code) after wanted address sent ≡ unknown
        → shaped_by (cond b (Some i) (lookup is code)) after wanted address sent ≡ unknown
    go true e r = cond-false _ _ _ (h.0 (eqb-true _ _ e))
    go false e r = r

-- the same shape in other words
moved : (c c' m m' n n' : ℕ) → Listed c m n → c ≡ c' → m' ≡ m → n' ≡ n → Listed c' m' n'
moved c c' m m' n n' l e f g =
    subst (λ x. Listed x m' n') e (subst (λ x. Listed c x n') (sym f) (subst (λ x. Listed c m x) (sym g) l))

and_more : {A B : Type 0} → A → B → A × B
and_more a b = (a, b)

module _ (code after wanted : ℕ) (never : Listed code after wanted → ⊥) where
  -- a row without data, by the bytes that it gives back
  none_back : (c m : ℕ) → Listed c m 0 → c ≡ code → eqb after m && eqb wanted 0 ≡ false
  none_back c m l e =
      false_from_ne_true _ (λ t.
      let p = and_parts (eqb after m) (eqb wanted 0) t in never (moved c code m after 0 wanted l e (eqb-true _ _ p.0) (eqb-true _ _ p.1)))

  any_back : (c m : ℕ) → Listed c m wanted → c ≡ code → eqb after m && true ≡ false
  any_back c m l e =
      false_from_ne_true _ (λ t.
      let p = and_parts (eqb after m) true t in never (moved c code m after wanted wanted l e (eqb-true _ _ p.0) refl))

  few_back : (c m : ℕ) → (wanted ≤ 3 → Listed c m wanted) → c ≡ code → eqb after m && leb wanted 3 ≡ false
  few_back c m l e =
      false_from_ne_true _ (λ t.
      let p = and_parts (eqb after m) (leb wanted 3) t in never (moved c code m after wanted wanted (l (leb-true _ _ p.1)) e (eqb-true _ _ p.0) refl))

  -- and one with data
  with_data : (c : ℕ) → (3 < after → Listed c after 0) → c ≡ code → ltb 3 after && eqb wanted 0 ≡ false
  with_data c l e =
      false_from_ne_true _ (λ t.
      let p = and_parts (ltb 3 after) (eqb wanted 0) t in never (moved c code after after 0 wanted (l (ltb-true _ _ p.0)) e refl (eqb-true _ _ p.1)))

  -- from the last row up
  unfit : All (Unfit code after wanted) table
  unfolding table
  unfit =
      let from_c7 = and_more (none_back 0xC7 0 code_C7) tt in
      let from_d8 = and_more (none_back 0xD8 3 code_D8) from_c7 in
      let from_d1 = and_more (with_data 0xD1 code_D1) from_d8 in
      let from_22 = and_more (with_data 0x22 code_22) from_d1 in
      let from_02 = and_more (with_data 0x02 code_02) from_22 in
      let from_0b = and_more (any_back 0x0B 4 code_0B) from_02 in
      let from_03 = and_more (any_back 0x03 3 code_03) from_0b in
      let from_9f = and_more (few_back 0x9F 0 code_9F) from_03 in
      let from_05 = and_more (any_back 0x05 0 code_05) from_9f in
      let from_04 = and_more (none_back 0x04 0 code_04) from_05 in
      (none_back 0x06 0 code_06, from_04)

pub no_other : (c : Chip) (code : ℕ) (rest : List ℕ) (n : ℕ) → (Listed code (length rest) n → ⊥) → hears c (frame (code ∷ rest) n) ≡ unknown
no_other c code rest n never =
    same_heard c unknown (code ∷ rest) n (unlisted table code (length rest) n (address_in rest) (data_in rest) (unfit code (length rest) n never)) refl refl

pub no_code : (c : Chip) (n : ℕ) → hears c (frame [] n) ≡ unknown
no_code c n = same_heard c unknown [] n refl refl refl

on_chip_inside : (c : Chip) (o : Ask) → OnChip c (inside (length c.image) o)
on_chip_inside c enable = tt
on_chip_inside c disable = tt
on_chip_inside c status = tt
on_chip_inside c identify = tt
on_chip_inside c (read a) = cond_both (ltb a (length c.image)) _ _ (OnChip c) (λ t. ltb-true _ _ t) (λ _. tt)
on_chip_inside c (cycle (program a d)) = cond_both (ltb a (length c.image)) _ _ (OnChip c) (λ t. ltb-true _ _ t) (λ _. tt)
on_chip_inside c (cycle (alter a d)) = cond_both (ltb a (length c.image)) _ _ (OnChip c) (λ t. ltb-true _ _ t) (λ _. tt)
on_chip_inside c (cycle (preset a d)) = cond_both (ltb a (length c.image)) _ _ (OnChip c) (λ t. ltb-true _ _ t) (λ _. tt)
on_chip_inside c (cycle (sector_erase a)) = cond_both (ltb a (length c.image)) _ _ (OnChip c) (λ t. ltb-true _ _ t) (λ _. tt)
on_chip_inside c (cycle bulk_erase) = tt
on_chip_inside c unknown = tt

on_chip_polled : (c : Chip) (o : Ask) → OnChip c (polled o)
on_chip_polled c enable = tt
on_chip_polled c disable = tt
on_chip_polled c status = tt
on_chip_polled c identify = tt
on_chip_polled c (read a) = tt
on_chip_polled c (cycle y) = tt
on_chip_polled c unknown = tt

pub on_chip : (c : Chip) (f : Frame) → OnChip c (hears c f)
on_chip c f =
    let o = ordered f.sent f.wanted in
    cond_both (eqb c.busy 0) _ _ (OnChip c) (λ _. on_chip_inside c o) (λ _. on_chip_polled c o)
