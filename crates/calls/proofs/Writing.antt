-- A write through a fence keeps the law.
use Rattle.std.proofs.Common.{◌≡◌, ℕ, ◌+◌, ◌*◌, ◌<◌, List, [], ◌∷◌, ◌++◌, length, take, Err, Result, sym, refl, ap, ap₂, ◌∙◌, subst, arith, length-append, length-take}
use Rattle.std.proofs.lemmas.List.{length-map, map-append, take-map}
use Rattle.std.proofs.lemmas.Bool.{both_ways}
use Rattle.memory.specs.Shape.{size}
use Rattle.memory.specs.Cycle.{Cycle, Goes}
use Rattle.part.specs.declared.part.Part.{Ghosts}
use Rattle.part.specs.Meaning.{Meaning, Event, none as unmoved, protected_at}
use Rattle.part.specs.PlainLemmas.{played-++}
use Rattle.fence.specs.declared.fence.Fence.{Fence}
use Rattle.least.specs.declared.step.Step.{Step}
use Rattle.least.specs.Steps.{cycles_of, step_cycle, steps_of, data_of}
use Rattle.least.proofs.Stepped.{steps_are_cycles}
use Rattle.least.specs.Writes as writes
use Rattle.least.specs.Theorems as theorems
use Rattle.least.specs.Theorems.{Says, LeastBy}
use Rattle.planner.specs.Waits.{Polls}
use Rattle.planner.specs.Looking.{LookedBy}
use Rattle.planner.specs.Wanted.{wanted}
use Rattle.planner.specs.Running.{Carries, Did, Sends, none as sent_none, more as sent_more}
use Rattle.planner.proofs.Doings.{did_polls, did_step, did_join, sends_did}
use Rattle.writing.proofs.Carrying.{did_looked, did_over, polls-idle, sends-idle}
use Rattle.writing.proofs.Unrefused.{Made, planned-made}
use Rattle.writing.specs.declared.fault.WriteFault.{WriteFault}
use Rattle.writing.specs.declared.fault.WriteFault.TheVariants.{Limit, Outside, StillBusy, Protected, StepsShort, DataShort, Abandoned}
use Rattle.writing.specs.WriteRows.{row}
use Rattle.writing.specs.Wrote.{Buffers, Left, Filled, LookedOver, plan_over, planned_cycles, Carried, unplanned, written, abandoned, Wrote, no_limit, outside, still_busy, waited}
use Rattle.calls.specs.declared.call.Refusal.TheVariants.{Write}
use Rattle.calls.specs.declared.call.Answer.{Answer}
use Rattle.calls.specs.declared.call.Answer.TheVariants as answers
use Rattle.calls.specs.Refusals.{write_answer, answer_row, came_of}
use Rattle.calls.specs.Requests.{writing, refused}
use Rattle.calls.specs.Causes.{Passes, WriteCause}
use Rattle.calls.specs.Effects.{Begun, Paced, none, more, RefusedWrite, Roomy}
use Rattle.calls.specs.Law.{ProtectedLaw, fencing, meant, Traced}
use Rattle.calls.proofs.Owing.{Owed, holds_moved, holds_put}
use Rattle.calls.proofs.Rows.{same_row}

-- steps and data that were made of cycles are these cycles again
made_is : (list : List Step) (fresh : List ℕ) (ys : List Cycle) → Made list fresh ys → cycles_of fresh list ≡ ys
made_is list fresh ys made = ap₂ cycles_of made.bytes made.steps ∙ (steps_are_cycles ys).0

made_filled : (b : Buffers) (list : List Step) (fresh : List ℕ) (ys : List Cycle) → Made list fresh ys → Filled b list fresh
    → Filled b (steps_of (cycles_of fresh list)) (data_of (cycles_of fresh list))
made_filled b list fresh ys made filled =
    let e = made_is list fresh ys made in
    let u : steps_of (cycles_of fresh list) ≡ list = ap steps_of e ∙ sym made.steps in
    let v : data_of (cycles_of fresh list) ≡ fresh = ap data_of e ∙ sym made.bytes in
    subst (λ (l : List Step). Filled b l (data_of (cycles_of fresh list))) (sym u) (subst (λ (x : List ℕ). Filled b list x) (sym v) filled)

module _ {P : Type 0} (part : Ghosts P)
    (stays : (s : P) → part.trace s s [])
    (joins : (a b c : P) (l m : List Event) → part.trace a b l → part.trace b c m → part.trace a c (l ++ m))
    (limit address : ℕ) (bytes : List ℕ) (b : Buffers)
  where
    abbrev m : Fence P → Meaning
    m = meant part

    abbrev t : Fence P → Fence P → List Event → Type 0
    t = Traced part

    abbrev fence : Ghosts (Fence P)
    fence = fencing part

    stay : (f : Fence P) → t f f []
    stay f = (refl, stays f.part, unmoved)

    join : (x y z : Fence P) (k l : List Event) → t x y k → t y z l → t x z (k ++ l)
    join x y z k l p q = (q.0 ∙ p.0, joins x.part y.part z.part k l p.1 q.1, played-++ p.2 q.2)

    abbrev steps : ℕ
    steps = length b.steps

    abbrev room : ℕ
    room = length b.sent

    abbrev Owes : Fence P → Answer → Fence P → Type 0
    Owes f answer g = (held : List ℕ) → Owed part b f (writing address bytes limit) held answer g

    -- no refusal has number 8
    numbered : (f : Fence P) (fault : WriteFault) → WriteCause (m f) steps room address bytes limit fault
        → refused ≡ came_of (answer_row (answers.Refused (Write fault)))
    numbered f (Limit n) c = refl
    numbered f (Outside a) c = refl
    numbered f (StillBusy n) c = refl
    numbered f (Protected a) c = refl
    numbered f (StepsShort cost) c = refl
    numbered f (DataShort cost) c = refl
    numbered f (Abandoned n) c = absurd c

    -- a refusal: nothing alters
    refused_owed : (f g : Fence P) (fault : WriteFault) → g.closed ≡ f.closed → (m g).image ≡ (m f).image → RefusedWrite fence fault f g → Left b
        → ProtectedLaw part f (writing address bytes limit) (answers.Refused (Write fault))
        → WriteCause (m f) steps room address bytes limit fault → Owes f (answers.Refused (Write fault)) g
    refused_owed f g fault shut same u left p c held =
        record {
          law = λ ref a. record { numbered = numbered f fault c; closed = shut ∙ a.closed; reads = tt; effect = (u, left); protected = p; cause = c };
          agrees = λ ref a. record { image = holds_moved ref.image _ _ same a.image; closed = shut ∙ a.closed };
        }

    polls-image : (n : ℕ) (f g : Fence P) → Polls fence n f g → (m g).image ≡ (m f).image
    polls-image n f g p = ap (λ (x : Meaning). x.image) p.leaves

    -- steps that were sent are cycles that were sent
    paced_of : {fresh : List ℕ} {f g : Fence P} {list : List Step} → Sends fence fresh limit f list g → Paced fence limit f (cycles_of fresh list) g
    paced_of sent_none = none
    paced_of {fresh = fresh} {f = f} {g = g} (sent_more {l = l} {s = s} sends idle step due wait) =
        subst (λ (ys : List Cycle). Paced fence limit f ys g) (sym (map-append (step_cycle fresh) l (s ∷ [])))
        (more (paced_of sends) idle step.event step.due due wait)

    -- planning answers the same before and after the wait
    SaysOf : Meaning → writes.Answer → Type 0
    SaysOf x answer = Says x.shape (protected_at x) x.image address bytes steps room answer

    says_before : (n : ℕ) (f idle : Fence P) (x : writes.Answer) → Polls fence n f idle → SaysOf (m idle) (plan_over (m idle) address bytes steps room)
        → plan_over (m idle) address bytes steps room ≡ x → SaysOf (m f) x
    unfolding SaysOf
    says_before n f idle x p s e = subst (λ (y : Meaning). SaysOf y x) p.leaves (subst (λ (z : writes.Answer). SaysOf (m idle) z) e s)

    abbrev Least : Fence P → List Cycle → ℕ × ℕ → Type 0
    Least f ys cost = LeastBy (m f).shape (protected_at (m f)) (m f).image (wanted (m f) address bytes) ys cost

    module _ (f g : Fence P) (passes : Passes (m f) address (length bytes) limit) where
      -- a refusal told by the row of another is that one
      owed_as : (fault known : WriteFault) → row fault ≡ row known → Owes f (write_answer (Err known)) g → Owes f (write_answer (Err fault)) g
      owed_as fault known e o = subst (λ (w : WriteFault). Owes f (write_answer (Err w)) g) (sym (same_row fault known e)) o

      -- planning refuses: by what it says, with the fault that has its row
      unplanned_owed : (fault : WriteFault) (x : writes.Answer) → SaysOf (m f) x → x ≡ writes.refused (row fault) → g.closed ≡ f.closed → (m g).image ≡ (m f).image
          → Begun fence f g → Left b → Owes f (write_answer (Err fault)) g
      unfolding SaysOf
      unplanned_owed fault _ (theorems.outside past) e shut same u left = absurd (omega (arith, past, passes.inside))
      unplanned_owed fault _ (theorems.barred a inside lowest nothing) e shut same u left =
          owed_as fault (Protected a) (cc) (refused_owed f g (Protected a) shut same u left (λ _. (λ _. nothing, λ _. refl)) (passes, lowest))
      unplanned_owed fault _ (theorems.few_steps l cost inside by short) e shut same u left =
          owed_as fault (StepsShort cost) (cc)
          (refused_owed f g (StepsShort cost) shut same u left (λ _. (λ z. absurd (omega arith), λ nothing. absurd (nothing l by.goes))) (passes, (l, by), short))
      unplanned_owed fault _ (theorems.few_data l cost inside by enough short) e shut same u left =
          owed_as fault (DataShort cost) (cc)
          (refused_owed f g (DataShort cost) shut same u left (λ _. (λ z. absurd (omega arith), λ nothing. absurd (nothing l by.goes))) (passes, (l, by), enough, short))
      unplanned_owed fault _ (theorems.written cost list fresh inside least counts few short) e shut same u left =
          let z : ◌≡◌ {A = ℕ} 0 1 = cc in absurd (omega arith)

      -- what is said of a plan
      plan_of : (cost : ℕ × ℕ) (list : List Step) (fresh : List ℕ) → SaysOf (m f) (writes.planned cost list fresh)
          → Least f (cycles_of fresh list) cost × Roomy b cost
      unfolding SaysOf
      plan_of _ _ _ (theorems.written cost list fresh inside least counts few short) =
          let c = ap (λ (x : ℕ × ℕ). x.0) counts in
          let d = ap (λ (x : ℕ × ℕ). x.1) counts in (least, (omega arith, omega arith))

      module _ (ready : Fence P) (begins : Begun fence f ready) (cost : ℕ × ℕ) (list : List Step) (fresh : List ℕ)
          (plan : Least f (cycles_of fresh list) cost × Roomy b cost) (filled : Filled b (steps_of (cycles_of fresh list)) (data_of (cycles_of fresh list)))
          (defined : cycles_of fresh list ≡ planned_cycles (m f) address bytes)
        where
          written_owed : Did fence [] (cycles_of fresh list) f g → Sends fence fresh limit ready list g → (m g).due ≡ 0 → Owes f (answers.Written cost) g
          written_owed d sends quiet held =
              let leaves : (m g).image ≡ wanted (m f) address bytes = sym d.goes.1 ∙ plan.0.goes.1 in
              record {
                law = λ ref a.
                    record {
                      numbered = refl;
                      closed = d.happened.0 ∙ a.closed;
                      reads = tt;
                      effect =
                          record {
                            passes = passes;
                            ready = ready;
                            begins = begins;
                            sent = cycles_of fresh list;
                            paced = paced_of sends;
                            idle = quiet;
                            leaves = leaves;
                            steady = record { shape = d.shape; guarded = d.guarded };
                            accepted = plan.0.goes;
                            costs = plan.0.costs;
                            least = plan.0.least;
                            planned = defined;
                            room = plan.1;
                            filled = filled;
                          };
                      protected = λ _. (λ z. absurd z, λ nothing. nothing (cycles_of fresh list) plan.0.goes);
                      cause = tt;
                    };
                agrees = λ ref a. record { image = holds_put ref.image _ _ address bytes leaves a.image; closed = d.happened.0 ∙ a.closed };
              }

          abandoned_owed : (before still : Fence P) (k : ℕ) (s : Step) → k < length list → take (k + 1) list ≡ take k list ++ s ∷ []
              → Did fence [] (cycles_of fresh (take k list)) f before → Sends fence fresh limit ready (take k list) before → (m before).due ≡ 0
              → Carries fence fresh s before still → limit < (m still).due → Polls fence limit still g → Owes f (answers.Abandoned (k + 1)) g
          abandoned_owed before still k s lt split d sends quiet step over stop held =
              let y = step_cycle fresh s in
              let ys = cycles_of fresh (take k list) in
              let both = did_join fence stay join [] ys (y ∷ []) f before still d (did_over fence stay join fresh [] (y ∷ []) before still (did_step fence stay join fresh s before still step)) in
              let count : length ys ≡ k = length-map (take k list) (step_cycle fresh) ∙ (length-take k list ∙ omega arith) in
              let shut : g.closed ≡ f.closed = stop.made.0 ∙ (step.event.0 ∙ d.happened.0) in
              record {
                law = λ ref a.
                    record {
                      numbered = refl;
                      closed = shut ∙ a.closed;
                      reads = tt;
                      effect =
                          record {
                            passes = passes;
                            ready = ready;
                            begins = begins;
                            before = before;
                            still = still;
                            sent = ys;
                            last = y;
                            paced = paced_of sends;
                            idle = quiet;
                            sends = step.event;
                            beyond = over;
                            polls = stop;
                            counted = sym (length-append ys (y ∷ []) ∙ ap (λ (x : ℕ). x + 1) count);
                            accepted =
                                subst (λ (x : List ℕ). Goes (m f).shape (protected_at (m f)) (m f).image (ys ++ y ∷ []) x) (sym (polls-image limit still g stop))
                                both.goes;
                            steady =
                                record {
                                  shape = ap (λ (x : Meaning). x.shape) stop.leaves ∙ both.shape;
                                  guarded = ap (λ (x : Meaning). x.guarded) stop.leaves ∙ both.guarded;
                                };
                            plan = cycles_of fresh list;
                            cost = cost;
                            least = plan.0;
                            planned = defined;
                            first = take-map (step_cycle fresh) (k + 1) list ∙ (ap (cycles_of fresh) split ∙ map-append (step_cycle fresh) (take k list) (s ∷ []));
                            room = plan.1;
                            filled = filled;
                          };
                      protected = λ _. (λ z. absurd z, λ nothing. nothing (cycles_of fresh list) plan.0.goes);
                      cause = tt;
                    };
                agrees = λ ref a. record { image = tt; closed = shut ∙ a.closed };
              }

    -- waiting and planning first, and then steps
    did_after : (n k : ℕ) (f idle ready g : Fence P) (fresh : List ℕ) (list : List Step) → Polls fence n f idle → LookedBy fence k idle ready
        → Sends fence fresh limit ready list g → Did fence [] (cycles_of fresh list) f g
    did_after n k f idle ready g fresh list p l sends =
        let ys = cycles_of fresh list in
        did_join fence stay join [] [] ys f idle g (did_polls fence stay join [] n f idle p)
        (did_join fence stay join [] [] ys idle ready g (did_looked fence stay join [] k idle ready l)
        (did_over fence stay join fresh [] ys ready g (sends_did fence stay join fresh sends)))

    carried_owed : (f idle g : Fence P) (r : Result (ℕ × ℕ) WriteFault) → Passes (m f) address (length bytes) limit → Polls fence (m f).due f idle
        → SaysOf (m idle) (plan_over (m idle) address bytes steps room) → Carried fence limit address bytes b idle g r → Owes f (write_answer r) g
    carried_owed f idle g r passes p says carried = go r carried
      where
        begun : (ready : Fence P) → LookedOver fence idle ready → Begun fence f ready
        begun ready l = record { idle = idle; waits = p; looks = subst (λ (x : Meaning). LookedBy fence (3 * size x.shape) idle ready) p.leaves l }

        quiet : (m idle).due ≡ 0
        quiet = polls-idle fence stay join f idle p

        made : (cost : ℕ × ℕ) (list : List Step) (fresh : List ℕ) → plan_over (m idle) address bytes steps room ≡ writes.planned cost list fresh
            → Made list fresh (planned_cycles (m idle) address bytes)
        made cost list fresh e = planned-made cost list fresh (m idle).shape (protected_at (m idle)) (m idle).image address bytes steps room e

        defined : (cost : ℕ × ℕ) (list : List Step) (fresh : List ℕ) → plan_over (m idle) address bytes steps room ≡ writes.planned cost list fresh
            → cycles_of fresh list ≡ planned_cycles (m f) address bytes
        defined cost list fresh e =
            subst (λ (x : Meaning). cycles_of fresh list ≡ planned_cycles x address bytes) p.leaves (made_is list fresh _ (made cost list fresh e))

        go : (r : Result (ℕ × ℕ) WriteFault) → Carried fence limit address bytes b idle g r → Owes f (write_answer r) g
        go _ (unplanned fault e look left) =
            unplanned_owed f g passes fault (writes.refused (row fault)) (says_before (m f).due f idle _ p says e) refl
            (look.asked.1.0 ∙ p.made.0) (ap (λ (x : Meaning). x.image) look.same ∙ polls-image (m f).due f idle p) (begun g look) left
        go _ (written {ready = ready} cost list fresh e filled look sends) =
            written_owed f g passes ready (begun ready look) cost list fresh (plan_of f g passes cost list fresh (says_before (m f).due f idle _ p says e))
            (made_filled b list fresh _ (made cost list fresh e) filled) (defined cost list fresh e) (did_after (m f).due _ f idle ready g fresh list p look sends) sends
            (sends-idle fence stay join (ap (λ (x : Meaning). x.due) look.same ∙ quiet) sends)
        go _ (abandoned {ready = ready} {before = before} {still = still} k s cost list fresh e filled lt split look sends idle' step over stop) =
            abandoned_owed f g passes ready (begun ready look) cost list fresh (plan_of f g passes cost list fresh (says_before (m f).due f idle _ p says e))
            (made_filled b list fresh _ (made cost list fresh e) filled) (defined cost list fresh e) before still k s lt split
            (did_after (m f).due _ f idle ready before fresh (take k list) p look sends) sends idle' step over stop

    pub write_owed : (f g : Fence P) (r : Result (ℕ × ℕ) WriteFault) → Wrote fence limit address bytes b f g r → Owes f (write_answer r) g
    unfolding SaysOf
    write_owed f g _ (no_limit off same left) =
        refused_owed f g (Limit limit) (ap (λ (x : Fence P). x.closed) same) (ap (λ x. (m x).image) same) same left (λ p. absurd (both_ways _ off p.limited)) (refl, off)
    write_owed f g _ (outside on past same left) =
        refused_owed f g (Outside address) (ap (λ (x : Fence P). x.closed) same) (ap (λ x. (m x).image) same) same left (λ p. absurd (omega (arith, past, p.inside))) (refl, on, past)
    write_owed f g _ (still_busy on inside due p left) =
        refused_owed f g (StillBusy limit) p.made.0 (polls-image limit f g p) p left (λ q. absurd (omega (arith, due, q.waits))) (refl, on, inside, due)
    write_owed f g r (waited {idle = idle} on inside due p says carried) =
        carried_owed f idle g r (record { limited = on; inside = inside; waits = due }) p says carried
