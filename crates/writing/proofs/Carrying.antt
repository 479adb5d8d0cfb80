-- A write to a part with nothing due, from what planning and running promise.
use Rattle.std.proofs.Common.{◌≡◌, ℕ, ◌-◌, ◌<◌, true, List, [], ◌++◌, length, get_or, take, replicate, Ok, Err, Result, sym, refl, ap, ◌∙◌, subst, arith, take_at}
use Rattle.std.proofs.lemmas.Bool.{both_ways, eq-eqb}
use Rattle.std.proofs.lemmas.List.{append-nil}
use Rattle.std.specs.Result.{IsErrAnd}
use Rattle.std.proofs.lemmas.Result.{err_from_is_err_and}
use Rattle.memory.specs.Page.{put}
use Rattle.memory.specs.Cycle.{Cycle}
use Rattle.part.specs.declared.part.Part.{Ghosts}
use Rattle.part.specs.Limit.{allowed}
use Rattle.part.specs.Meaning as of_part
use Rattle.part.specs.Meaning.{Meaning, Event, Sound, polled}
use Rattle.part.specs.Verdict.{idle}
use Rattle.least.specs.declared.step.Step.{Step}
use Rattle.least.specs.Steps.{cycles_of}
use Rattle.least.specs.Writes.{Answer, refused, planned}
use Rattle.least.specs.Theorems.{Says, LeastBy, written}
use Rattle.least.proofs.Answered.{writes_answered}
use Rattle.planner.specs.declared.fault.PlanFault.{PlanFault}
use Rattle.planner.specs.declared.fault.PlanFault.TheVariants as plans
use Rattle.planner.specs.declared.run_fault.RunFault.{RunFault}
use Rattle.planner.specs.declared.run_fault.RunFault.TheVariants as runs
use Rattle.planner.specs.Call.{Handed, plan_call, plan_row}
use Rattle.planner.specs.Looking.{LookedBy}
use Rattle.planner.specs.Waits.{Polls, waited_by}
use Rattle.planner.specs.Running as running
use Rattle.planner.specs.Running.{Ran, Sends, Did}
use Rattle.planner.proofs.Calls.{call_idle}
use Rattle.planner.proofs.Doings.{did_polls, did_join, sends_did}
use Rattle.writing.specs.declared.fault.WriteFault.{WriteFault}
use Rattle.writing.specs.declared.fault.WriteFault.TheVariants.{Abandoned}
use Rattle.writing.specs.WriteRows.{row, unplanned_as}
use Rattle.writing.specs.Wrote as wrote
use Rattle.writing.specs.Wrote.{plan_over, planned_cycles, Buffers, buffers, Filled, LookedOver, Carried, unplanned, abandoned}
use Rattle.writing.proofs.Unrefused.{Made, planned-made, unrefused}

waited_none : (m : Meaning) → waited_by 0 m ≡ m
waited_none m =
    let d : m.due - 0 ≡ m.due = omega arith in
    ap {B = Meaning} (λ n. record { shape = m.shape; image = m.image; guarded = m.guarded; due = n }) d

row_of : (f : PlanFault) → row (unplanned_as f) ≡ plan_row f
row_of (plans.Outside a) = refl
row_of plans.Busy = refl
row_of (plans.Protected a) = refl
row_of (plans.StepsShort c) = refl
row_of (plans.DataShort c) = refl

module _ {P : Type 0} (part : Ghosts P)
    (stays : (s : P) → part.trace s s [])
    (joins : (a b c : P) (l m : List Event) → part.trace a b l → part.trace b c m → part.trace a c (l ++ m))
  where
    -- the same, whatever buffer the steps point into
    pub did_over : (sent sent' : List ℕ) (ys : List Cycle) (a b : P) → Did part sent ys a b → Did part sent' ys a b
    did_over sent sent' ys a b d =
        record {
          events = d.events;
          happened = d.happened;
          exactly = d.exactly;
          shape = d.shape;
          guarded = d.guarded;
          goes = d.goes;
        }

    pub did_looked : (sent : List ℕ) (n : ℕ) (a b : P) → LookedBy part n a b → Did part sent [] a b
    did_looked sent n a b l =
        record {
          events = l.asked.0;
          happened = l.asked.1;
          exactly = l.asked.2;
          shape = ap (λ m. m.shape) l.same;
          guarded = ap (λ m. m.guarded) l.same;
          goes = (refl, sym (ap (λ m. m.image) l.same));
        }

    pub polls-idle : (a b : P) → Polls part (part.meaning a).due a b → (part.meaning b).due ≡ 0
    polls-idle a b p = let e : (part.meaning b).due ≡ (part.meaning a).due - (part.meaning a).due = ap (λ m. m.due) p.leaves in omega arith

    -- a wait with nothing due makes no poll
    looked_on : (n : ℕ) (a b c : P) → (part.meaning b).due ≡ 0 → LookedBy part n a b → Polls part (part.meaning b).due b c → LookedBy part n a c
    looked_on n a b c q l p =
        let none : part.trace b c [] = subst (λ k. part.trace b c (replicate k polled)) q p.made in
        let same : part.meaning c ≡ part.meaning b = p.leaves ∙ (ap (λ k. waited_by k (part.meaning b)) q ∙ waited_none (part.meaning b)) in
        record {
          same = same ∙ l.same;
          asked = (l.asked.0, subst (part.trace a c) (append-nil l.asked.0) (joins a b c l.asked.0 [] l.asked.1 none), l.asked.2, l.asked.3, l.asked.4);
        }

    pub sends-idle : {sent : List ℕ} {limit : ℕ} {a b : P} {l : List Step} → (part.meaning a).due ≡ 0 → Sends part sent limit a l b → (part.meaning b).due ≡ 0
    sends-idle e running.none = e
    sends-idle e (running.more {c = c} {d = d} sends idle step due wait) = polls-idle c d wait

    module _ (limit address : ℕ) (bytes : List ℕ) (steps steps' : List Step) (sent sent' : List ℕ) where
      abbrev Here : P → P → Result (ℕ × ℕ) WriteFault → Type 0
      Here = Carried part limit address bytes (buffers steps steps' sent sent')

      abbrev answer : P → Answer
      answer a = plan_over (part.meaning a) address bytes (length steps) (length sent)

      -- what holds of an error holds of the one that `?` made of it
      pub carried_as : (a b : P) (r : Result (ℕ × ℕ) WriteFault) (fault : WriteFault) → IsErrAnd r (λ f. f ≡ fault) → Here a b (Err fault) → Here a b r
      carried_as a b r fault e h =
          let p = err_from_is_err_and r e in rw (p.1, p.2) h

      handed : (a : P) (r : Result (ℕ × ℕ) PlanFault) → idle (part.meaning a) ≡ true
          → Handed (plan_call (part.meaning a) address bytes (length steps) (length sent)) r steps steps' sent sent'
          → Handed (answer a) r steps steps' sent sent'
      handed a r q h = rw (call_idle (part.meaning a) address bytes (length steps) (length sent) q) at h

      pub carried-unplanned : (a b : P) (fault : PlanFault) → (part.meaning a).due ≡ 0 → LookedOver part a b
          → Handed (plan_call (part.meaning a) address bytes (length steps) (length sent)) (Err fault) steps steps' sent sent'
          → Here a b (Err (unplanned_as fault))
      carried-unplanned a b fault q look h = go (answer a) refl (handed a (Err fault) (eq-eqb _ _ q) h)
        where
          go : (x : Answer) → answer a ≡ x → Handed x (Err fault) steps steps' sent sent' → Here a b (Err (unplanned_as fault))
          go (refused told) e t =
              let u : plan_row fault ≡ told = cc in
              unplanned (unplanned_as fault) (e ∙ ap refused (sym (row_of fault ∙ u))) look (t.1, t.2)
          go (planned cost list fresh) e t = let z : ◌≡◌ {A = ℕ} 0 1 = cc in absurd (omega arith)

      -- a plan that was handed out
      pub record Plan (a : P) (cost : ℕ × ℕ) : Type 0 where
        pub list : List Step
        pub fresh : List ℕ
        pub is : answer a ≡ planned cost list fresh
        pub filled : Filled (buffers steps steps' sent sent') list fresh
        pub counts : cost ≡ (length list, length fresh)
        pub least : LeastBy (part.meaning a).shape (of_part.protected_at (part.meaning a)) (part.meaning a).image (put address bytes (part.meaning a).image) (cycles_of fresh list) cost

      pub handed_plan : (a : P) (cost : ℕ × ℕ) → Sound (part.meaning a) → ((i : ℕ) → get_or bytes i 0 < 256) → idle (part.meaning a) ≡ true
          → Handed (plan_call (part.meaning a) address bytes (length steps) (length sent)) (Ok cost) steps steps' sent sent' → Plan a cost
      handed_plan a cost S small q h = go (answer a) refl (handed a (Ok cost) q h)
        where
          by : (cost : ℕ × ℕ) (list : List Step) (fresh : List ℕ) → answer a ≡ planned cost list fresh → Filled (buffers steps steps' sent sent') list fresh
              → Says (part.meaning a).shape (of_part.protected_at (part.meaning a)) (part.meaning a).image address bytes (length steps) (length sent) (planned cost list fresh)
              → Plan a cost
          by _ _ _ e f (written cost list fresh inside least counts few short) =
              record { list = list; fresh = fresh; is = e; filled = f; counts = counts; least = least }

          go : (x : Answer) → answer a ≡ x → Handed x (Ok cost) steps steps' sent sent' → Plan a cost
          go (refused told) e t = let z : ◌≡◌ {A = ℕ} 0 1 = cc in absurd (omega arith)
          go (planned cost' list fresh) e t =
              let u : cost' ≡ cost = cc in
              let e' : answer a ≡ planned cost list fresh = e ∙ ap (λ (c : ℕ × ℕ). planned c list fresh) u in
              let s = subst (λ (x : Answer). Says (part.meaning a).shape (of_part.protected_at (part.meaning a)) (part.meaning a).image address bytes (length steps) (length sent) x) e'
              (writes_answered (part.meaning a).shape (of_part.protected_at (part.meaning a)) (part.meaning a).image S.imaged address bytes small (length steps) (length sent)) in
              by cost list fresh e' (t.1, t.2) s

      -- what a run's answer says of the write: it is done or abandoned, and nothing else comes
      abbrev pub Ended : P → P → ℕ × ℕ → Result ℕ RunFault → Type 0
      Ended a to cost (Ok n) = Here a to (Ok cost)
      Ended a to cost (Err (runs.Limit n)) = ⊥
      Ended a to cost (Err (runs.StillBusy n)) = ⊥
      Ended a to cost (Err (runs.Refused step fault)) = ⊥
      Ended a to cost (Err (runs.Abandoned n)) = Here a to (Err (Abandoned n))

      pub ended_as : (a to : P) (cost : ℕ × ℕ) (fault known : RunFault) → Ended a to cost (Err fault) → fault ≡ known → Ended a to cost (Err known)
      ended_as a to cost fault known h e = subst (λ (f : RunFault). Ended a to cost (Err f)) e h

      module _ (a mid : P) (cost : ℕ × ℕ) (plan : Plan a cost) (q : (part.meaning a).due ≡ 0) (on' : allowed limit ≡ true)
          (look : LookedOver part a mid) where
        abbrev list : List Step
        list = plan.list

        abbrev fresh : List ℕ
        fresh = plan.fresh

        idle_mid : (part.meaning mid).due ≡ 0
        idle_mid = ap (λ m. m.due) look.same ∙ q

        made : Made list fresh (planned_cycles (part.meaning a) address bytes)
        made = planned-made cost list fresh (part.meaning a).shape (of_part.protected_at (part.meaning a)) (part.meaning a).image address bytes (length steps) (length sent) plan.is

        -- the look, the polls of the run, and the steps that were sent
        so_far : {x y : P} {l : List Step} → Polls part (part.meaning mid).due mid x → Sends part fresh limit x l y
            → Did part fresh (cycles_of fresh l) a y
        so_far {x = x} {y = y} {l = l} wait sends =
            did_join part stays joins fresh [] (cycles_of fresh l) a mid y (did_looked fresh _ a mid look)
            (did_join part stays joins fresh [] (cycles_of fresh l) mid x y (did_polls part stays joins fresh _ mid x wait)
            (sends_did part stays joins fresh sends))

        pub carried_run : (to : P) (r : Result ℕ RunFault) → Ran part fresh limit list mid to r → Ended a to cost r
        carried_run to _ (running.no_limit off same) = absurd (both_ways _ off on')
        carried_run to _ (running.still_busy on due wait) = absurd (omega (arith, due, idle_mid))
        carried_run to _ (running.ran {a = x} on due wait sends) =
            wrote.written cost list fresh plan.is plan.filled (looked_on _ a mid x idle_mid look wait) sends
        carried_run to _ (running.refused {a = x} {b = y} on due wait k s fault lt split sends idle turned) =
            let d = so_far wait sends in
            absurd (unrefused (part.meaning a) (part.meaning y) list fresh _ (put address bytes (part.meaning a).image) k s fault made plan.least.goes lt split
            d.shape d.guarded idle d.goes.1 turned.verdict)
        carried_run to _ (running.abandoned {a = x} {b = y} {c = still} on due wait k s lt split sends idle step over stop) =
            abandoned k s cost list fresh plan.is plan.filled lt split (looked_on _ a mid x idle_mid look wait) sends idle step over stop

      -- a plan that was handed out, and the run of the buffers' fronts, as long as its cost says
      pub carried-ran : (a mid to : P) (cost : ℕ × ℕ) (n d : ℕ) (r : Result ℕ RunFault) → Sound (part.meaning a) → ((i : ℕ) → get_or bytes i 0 < 256)
          → allowed limit ≡ true → (part.meaning a).due ≡ 0 → LookedOver part a mid
          → Handed (plan_call (part.meaning a) address bytes (length steps) (length sent)) (Ok cost) steps steps' sent sent'
          → ◌≡◌ {A = ℕ × ℕ} (n, d) cost → Ran part (take d sent') limit (take n steps') mid to r → Ended a to cost r
      carried-ran a mid to cost n d r S small on' q look h e x =
          let plan = handed_plan a cost S small (eq-eqb _ _ q) h in
          let counts : ◌≡◌ {A = ℕ × ℕ} (n, d) (length plan.list, length plan.fresh) = e ∙ plan.counts in
          let list : take n steps' ≡ plan.list = ap (take n) plan.filled.0 ∙ take_at plan.list _ n (omega (arith, ap (λ (y : ℕ × ℕ). y.0) counts)) in
          let fresh : take d sent' ≡ plan.fresh = ap (take d) plan.filled.1 ∙ take_at plan.fresh _ d (omega (arith, ap (λ (y : ℕ × ℕ). y.1) counts)) in
          carried_run a mid cost plan q on' look to r (rw (list, fresh) at x)
