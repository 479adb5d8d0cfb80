use Rattle.std.proofs.Common.{◌≡◌, ℕ, ◌+◌, ◌-◌, ◌<◌, ◌≤◌, min, List, [], ◌∷◌, ◌++◌, length, get_or, take, drop, sym, ap, ◌∙◌, subst, ap₂, arith, length-drop, length-take}
use Rattle.std.proofs.lemmas.List.{append_assoc, append-nil, take_all}
use Rattle.std.proofs.lemmas.Slice.{take-put_mid}
use borrow.Rule.Slice.PartMut.{put_mid, same_len_mid}
use Rattle.memory.specs.Page.{block}
use Rattle.memory.proofs.Rolled.{rolled-within}
use Rattle.port.specs.Chip.{Chip}
use Rattle.port.specs.Machine.{Frame, answer}
use Rattle.driver.specs.Frames.{read_frame, reads}
use Rattle.driver.proofs.Hearing.{length-read, after_read, answer-read}
use Rattle.driver.proofs.Reading.{reads_more, reads-done, block_more}
use Rattle.driver.proofs.read.read.Goals as goal

-- the frames so far, one more, and those that are left
frames_more : (room a n d m : ℕ) (fs : List Frame) → 0 < room → d < n → m ≡ min room (n - d) → fs ++ reads room (a + d) (n - d) ≡ reads room a n
    → (fs ++ (read_frame (a + d) m ∷ [])) ++ reads room (a + (d + m)) (n - (d + m)) ≡ reads room a n
frames_more room a n d m fs r l e f =
    let x : a + d + m ≡ a + (d + m) = omega arith in
    let y : n - d - m ≡ n - (d + m) = omega arith in
    append_assoc fs (read_frame (a + d) m ∷ []) (reads room (a + (d + m)) (n - (d + m)))
    ∙ ap (λ z. fs ++ z) (sym (reads_more room (a + d) (n - d) m r (omega arith) e ∙ ap₂ (λ u v. read_frame (a + d) m ∷ reads room u v) x y)) ∙ f

-- the bytes so far, and those that an idle chip gives to the frame
bytes_more : (w : ℕ) (c : Chip) (a n d m k : ℕ) (into back : List ℕ) → k ≡ m → 0 < m → a + (d + m) ≤ 16777216 → c.busy ≡ 0 → a + (d + m) ≤ length c.image → d + m ≤ length into
    → length back ≡ m → back ≡ answer w c (read_frame (a + d) k) → take d into ≡ block a d c.image
    → take (d + m) (put_mid d (d + m - d) into back) ≡ block a (d + m) c.image
bytes_more w c a n d m k into back e s l b i r size given f =
    let got : back ≡ block (a + d) m c.image =
    given ∙ answer-read w c (a + d) k (omega arith) b (omega arith) ∙ rolled-within c.image (a + d) k (omega arith) ∙ ap (λ x. block (a + d) x c.image) e in
    take-put_mid d (d + m - d) into back (d + m) (omega arith) (omega arith) ∙ ap₂ ◌++◌ f got ∙ block_more a d m c.image

pub ask-requires : goal.ask-requires
ask-requires g c =
    let d : ℕ = c.loop-done.done in
    let m : ℕ = c.min-n.result in
    let l = length-read (c.args.address + d) in
    let p : length (take (d + m - d) (drop d c.loop-done.into)) ≤ m = simp (length-take, length-drop) (omega arith) in
    let s = (g.met.P.Port.sound c.args.port.now).1 in
    let r = c.longest_frame-room.ensures in
    let i = c.loop-done.invariant.2 in
    (omega arith, omega arith)

pub loop-done-preserved : goal.loop-done-preserved
loop-done-preserved g c =
    let a : ℕ = c.args.address in
    let n : ℕ = length c.args.into.now in
    let d : ℕ = c.loop-done.done in
    let m : ℕ = c.min-n.result in
    let i = c.loop-done.invariant in
    let room : ℕ = c.longest_frame-room.result - 4 in
    let chip : Chip = g.P.Port.chip c.loop-done.port in
    let old : Chip = g.P.Port.chip c.args.port.now in
    let into : List ℕ = c.loop-done.into in
    let e = c.min-n.ensures in
    let k = c.loop-done.auto.into in
    let s = (g.met.P.Port.sound c.args.port.now).1 in
    let r = c.longest_frame-room.ensures in
    let q = c.requires in
    let p : length (take (d + m - d) (drop d into)) ≡ m = simp (length-take, length-drop) (omega arith) in
    let full : m ≡ room = omega arith in
    let size : length c.ask.new.back ≡ m = c.ask.auto.back ∙ p in
    let T : ℕ → Type 0 = λ x. g.P.Port.trace c.loop-done.port c.ask.new.port (read_frame (a + d) x ∷ []) in
    let F : ℕ → Type 0 = λ x. (i.3.0 ++ (read_frame (a + d) m ∷ [])) ++ reads room (a + (d + x)) (n - (d + x)) ≡ reads room a n in
    let B : ℕ → Type 0 = λ x. take (d + x) (put_mid d (d + m - d) into c.ask.new.back) ≡ block a (d + x) old.image in (
      omega arith,
      c.ask.ensures.chip ∙ after_read (g.P.Port.chip c.ask.new.port).busy chip (a + d) _ (omega arith) ∙ i.1,
      c.ask.ensures.longest ∙ i.2,
      (
        i.3.0 ++ (read_frame (a + d) m ∷ []),
        g.met.P.Port.joins _ _ _ _ _ i.3.1 (subst T p c.ask.ensures.trace),
        subst F full (frames_more room a n d m i.3.0 (omega arith) (omega arith) (omega arith) i.3.2),
      ),
      λ b h.
          let x = c.ask.ensures.back ∙ ap (λ z. answer (get_or c.ask.new.back 0 0) z (read_frame (a + d) (length (take (d + m - d) (drop d into))))) i.1 in
          subst B full (bytes_more (get_or c.ask.new.back 0 0) old a n d m _ into c.ask.new.back p (omega arith) (omega arith) b (omega arith) (omega arith) size x (i.4 b h)),
    )

pub returns-2 : goal.returns-2
returns-2 g c =
    let a : ℕ = c.args.address in
    let n : ℕ = length c.args.into.now in
    let d : ℕ = c.loop-done.done in
    let m : ℕ = c.min-n.result in
    let i = c.loop-done.invariant in
    let room : ℕ = c.longest_frame-room.result - 4 in
    let chip : Chip = g.P.Port.chip c.loop-done.port in
    let old : Chip = g.P.Port.chip c.args.port.now in
    let into : List ℕ = c.loop-done.into in
    let e = c.min-n.ensures in
    let k = c.loop-done.auto.into in
    let s = (g.met.P.Port.sound c.args.port.now).1 in
    let r = c.longest_frame-room.ensures in
    let q = c.requires in
    let p : length (take (d + m - d) (drop d into)) ≡ m = simp (length-take, length-drop) (omega arith) in
    let last : d + m ≡ n = omega arith in
    let size : length c.ask.new.back ≡ m = c.ask.auto.back ∙ p in
    let given : Frame → Type 0 = λ f. g.P.Port.trace c.loop-done.port c.ask.new.port (f ∷ []) in
    let T : List Frame → Type 0 = λ fs. g.P.Port.trace c.args.port.now c.ask.new.port fs in
    let F = frames_more room a n d m i.3.0 (omega arith) (omega arith) (omega arith) i.3.2 in
    let z : (i.3.0 ++ (read_frame (a + d) m ∷ [])) ≡ reads (g.P.Port.longest c.args.port.now - 4) a n =
    sym (append-nil _) ∙ ap (λ x. (i.3.0 ++ (read_frame (a + d) m ∷ [])) ++ x) (sym (reads-done room (a + (d + m)) (n - (d + m)) (omega arith))) ∙ F ∙ ap (λ x. reads (x - 4) a n) r in
    record {
      bytes = λ b h.
          let x = c.ask.ensures.back ∙ ap (λ z. answer (get_or c.ask.new.back 0 0) z (read_frame (a + d) (length (take (d + m - d) (drop d into))))) i.1 in
          sym (take_all (d + m) (put_mid d (d + m - d) into c.ask.new.back) (omega (arith, same_len_mid d (d + m - d) into c.ask.new.back c.ask.auto.back)))
          ∙ bytes_more (get_or c.ask.new.back 0 0) old a n d m _ into c.ask.new.back p (omega arith) (omega arith) b (omega arith) (omega arith) size x (i.4 b h)
          ∙ ap (λ x. block a x old.image) last;
      chip = c.ask.ensures.chip ∙ after_read (g.P.Port.chip c.ask.new.port).busy chip (a + d) _ (omega arith) ∙ i.1;
      trace = subst T z (g.met.P.Port.joins _ _ _ _ _ i.3.1 (subst given (ap (read_frame (a + d)) p) c.ask.ensures.trace));
    }

pub returns-clause-trace : goal.returns-clause-trace
returns-clause-trace g c =
    let a : ℕ = c.args.address in
    let n : ℕ = length c.args.into.now in
    let d : ℕ = c.loop-done.done in
    let i = c.loop-done.invariant in
    let room : ℕ = c.longest_frame-room.result - 4 in
    let T : List Frame → Type 0 = λ fs. g.P.Port.trace c.args.port.now c.loop-done.port fs in
    let e : i.3.0 ≡ reads room a n =
    sym (append-nil i.3.0) ∙ ap (λ x. i.3.0 ++ x) (sym (reads-done room (a + d) (n - d) (omega arith))) ∙ i.3.2 in
    let f : reads room a n ≡ reads (g.P.Port.longest c.args.port.now - 4) a n = ap (λ x. reads (x - 4) a n) c.longest_frame-room.ensures in
    subst T (e ∙ f) i.3.1
