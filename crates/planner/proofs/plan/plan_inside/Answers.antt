use Rattle.std.proofs.Common.{◌≡◌, ℕ, ◌+◌, ◌++◌, length, take, drop, Some, None, sym, refl, ap, ◌∙◌, subst, ap₂, arith, le_of_eq, length-take}
use Rattle.part.specs.Meaning.{Meaning}
use Rattle.least.specs.Steps.{steps_of, data_of}
use Rattle.planner.specs.Asking.{for_barred, for_bulk, for_sectors}
use Rattle.planner.specs.Sending.{Laid}
use Rattle.planner.specs.Choice.{Chosen}
use Rattle.planner.specs.Call.{plan_list}
use Rattle.planner.proofs.Askings.{asked_all, asked_choice}
use Rattle.planner.proofs.Lookings.{looked_join}
use Rattle.planner.proofs.Calls.{cost_is, plan-counts, lowest_is, handed_barred, handed_steps, handed_data, handed_plan, put_all}
use Rattle.planner.proofs.plan.plan_inside.Goals as goal

pub returns-in-Some-clause-looked : goal.returns-in-Some-clause-looked
returns-in-Some-clause-looked g c = c.in-Some.ensures.looked

pub returns-in-Some-clause-answer : goal.returns-in-Some-clause-answer
returns-in-Some-clause-answer g c =
    let m = g.P.Part.meaning c.args.part.now in
    let a = c.args.write.address in
    let b = c.args.write.bytes.now in
    let F = c.requires.fitting in
    handed_barred m F.sound a b _ _ _ _ _ _ c.in-Some.place
    (lowest_is m F.sound a b F c.requires.byte (Some c.in-Some.place) c.in-Some.ensures.value) refl refl

pub returns-then-cycles-steps-clause-looked : goal.returns-then-cycles-steps-clause-looked
returns-then-cycles-steps-clause-looked g c =
    let m = g.P.Part.meaning c.args.part.now in
    let low = c.in_default.ensures.looked in
    let a = c.args.write.address in
    let b = c.args.write.bytes.now in
    looked_join g.P.Part g.met.P.Part.joins _ _ (for_barred m a b + (for_sectors m a b m.shape.sectors + for_bulk m a b)) _ _ _ low
    c.choose-choice.ensures.looked (le_of_eq (asked_choice m _ a b low.same))

pub returns-then-cycles-steps-clause-answer : goal.returns-then-cycles-steps-clause-answer
returns-then-cycles-steps-clause-answer g c =
    let m = g.P.Part.meaning c.args.part.now in
    let a = c.args.write.address in
    let b = c.args.write.bytes.now in
    let F = c.requires.fitting in
    let low = c.in_default.ensures in
    let chosen = subst (λ (x : Meaning). Chosen x a b c.choose-choice.result) low.looked.same c.choose-choice.ensures.value in
    handed_steps m F.sound a b _ _ _ _ _ _ (lowest_is m F.sound a b F c.requires.byte None low.value) c.choose-choice.result.cost
    (cost_is m F.sound a b c.choose-choice.result chosen) c.if-cycles-steps.true refl refl

pub returns-then-sent-data-clause-looked : goal.returns-then-sent-data-clause-looked
returns-then-sent-data-clause-looked g c =
    let m = g.P.Part.meaning c.args.part.now in
    let low = c.in_default.ensures.looked in
    let a = c.args.write.address in
    let b = c.args.write.bytes.now in
    looked_join g.P.Part g.met.P.Part.joins _ _ (for_barred m a b + (for_sectors m a b m.shape.sectors + for_bulk m a b)) _ _ _ low
    c.choose-choice.ensures.looked (le_of_eq (asked_choice m _ a b low.same))

pub returns-then-sent-data-clause-answer : goal.returns-then-sent-data-clause-answer
returns-then-sent-data-clause-answer g c =
    let m = g.P.Part.meaning c.args.part.now in
    let a = c.args.write.address in
    let b = c.args.write.bytes.now in
    let F = c.requires.fitting in
    let low = c.in_default.ensures in
    let chosen = subst (λ (x : Meaning). Chosen x a b c.choose-choice.result) low.looked.same c.choose-choice.ensures.value in
    handed_data m F.sound a b _ _ _ _ _ _ (lowest_is m F.sound a b F c.requires.byte None low.value) c.choose-choice.result.cost
    (cost_is m F.sound a b c.choose-choice.result chosen) c.if-cycles-steps.false c.if-sent-data.true refl refl

pub returns-clause-looked : goal.returns-clause-looked
returns-clause-looked g c =
    let m = g.P.Part.meaning c.args.part.now in
    let low = c.in_default.ensures.looked in
    let a = c.args.write.address in
    let b = c.args.write.bytes.now in
    let both = looked_join g.P.Part g.met.P.Part.joins _ _ (for_barred m a b + (for_sectors m a b m.shape.sectors + for_bulk m a b)) _ _ _ low
    c.choose-choice.ensures.looked (le_of_eq (asked_choice m _ a b low.same)) in
    looked_join g.P.Part g.met.P.Part.joins _ _ _ _ _ _ both c.put_plan.ensures.looked (le_of_eq (asked_all m _ a b both.same))

pub returns-clause-answer : goal.returns-clause-answer
returns-clause-answer g c =
    let m = g.P.Part.meaning c.args.part.now in
    let a = c.args.write.address in
    let b = c.args.write.bytes.now in
    let F = c.requires.fitting in
    let low = c.in_default.ensures in
    let ch = c.choose-choice.ensures in
    let n = c.choose-choice.result.cost.0 in
    let d = c.choose-choice.result.cost.1 in
    let steps = c.args.steps.now in
    let sent = c.args.data.now in
    let same = ch.looked.same ∙ low.looked.same in
    let n₀ : length (take n steps) ≡ n = simp length-take (omega arith) in
    let d₀ : length (take d sent) ≡ d = simp length-take (omega arith) in
    let chosen = subst (λ (x : Meaning). Chosen x a b c.choose-choice.result) low.looked.same ch.value in
    let e = cost_is m F.sound a b c.choose-choice.result chosen in
    let u : length (steps_of (plan_list m a b)) ≡ n = sym (ap (λ (y : ℕ × ℕ). y.0) (e ∙ plan-counts m F.sound a b)) in
    let v : length (data_of (plan_list m a b)) ≡ d = sym (ap (λ (y : ℕ × ℕ). y.1) (e ∙ plan-counts m F.sound a b)) in
    let s = subst (λ (x : Meaning). Laid (plan_list x a b) (take n steps) c.put_plan.new.steps (take d sent) c.put_plan.new.data) same
    c.put_plan.ensures.laid in
    let p = put_all (plan_list m a b) (take n steps) c.put_plan.new.steps (take d sent) c.put_plan.new.data n d n₀ d₀ u v s in
    handed_plan m F.sound a b _ _ steps _ sent _ (lowest_is m F.sound a b F c.requires.byte None low.value) c.choose-choice.result.cost
    e c.if-cycles-steps.false c.if-sent-data.false
    (ap₂ (λ x k. x ++ drop k steps) p.0 (sym u)) (ap₂ (λ x k. x ++ drop k sent) p.1 (sym v))
