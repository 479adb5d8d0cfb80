use Rattle.std.proofs.Common.{Err, sym, ap, ◌∙◌, arith}
use Rattle.std.proofs.lemmas.List.{get_or_past}
use Rattle.listing.specs.Scan.{refused}
use Rattle.listing.proofs.Turns.{closing_end, closing_space, closing_no}
use Rattle.listing.proofs.reader.Reader.frame.Goals as goal
use Rattle.listing.proofs.reader.Reader.frame.Goals.{in_default-via-in-Some+in_default, in_default-via-in_default}

pub returns-in-Some-eq10 : goal.returns-in-Some-eq10
returns-in-Some-eq10 c =
    let t = c.args.self.now.rest.now in
    let p = c.in_ok-end.ensures in
    let b = c.in-Some-eq10.ensures.lookup.3.1 0 in
    sym (ap (refused c.args.self.now.line) (p.0 ∙ closing_end t c.in_ok-end.end (sym b ∙ c.in-Some-eq10.field-0-test)))

pub returns-in-Some-eq32 : goal.returns-in-Some-eq32
returns-in-Some-eq32 c =
    let t = c.args.self.now.rest.now in
    let p = c.in_ok-end.ensures in
    let b = c.in-Some-eq32.ensures.lookup.3.1 0 in
    c.count.ensures ∙ sym (ap (refused c.args.self.now.line) (p.0 ∙ closing_space t c.in_ok-end.end (sym b ∙ c.in-Some-eq32.field-0-test)))

pub returns-in_default : goal.returns-in_default
returns-in_default c =
    let l = c.args.self.now.line in
    let t = c.args.self.now.rest.now in
    let e = c.in_ok-end.end in
    let p = c.in_ok-end.ensures in
    elim c.in_default.branch [
      | in_default-via-in-Some+in_default w ↦ (
          let b = (rw w.in_default.is at c.get.ensures.lookup.3).1 0 in
          let q = closing_no t e (λ h. w.in_default.field-0-test.0.1 (cc)) (λ h. w.in_default.field-0-test.1 (cc)) in
          ap Err c.stuck.ensures ∙ sym (ap (refused l) (p.0 ∙ q)))
      | in_default-via-in_default w ↦ (
          let b = get_or_past t e 0 (rw w.in_default.is at c.get.ensures.lookup.3) in
          let q = closing_no t e (λ h. omega arith) (λ h. omega arith) in
          ap Err c.stuck.ensures ∙ sym (ap (refused l) (p.0 ∙ q)))
    ]
