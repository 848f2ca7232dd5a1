-- The arrays at the numbers of a run, and what images recover to along it.
use Rattle.std.proofs.Common.{◌≡◌, ℕ, ◌+◌, ◌-◌, ◌≤◌, ◌<◌, true, false, IsTrue, List, [], ◌∷◌, ◌++◌, length, length-append, get_or, refl, sym, ap, ◌∙◌, subst, arith, ⊎_elim, ◌⊎◌, inl, inr}
use Rattle.std.proofs.lemmas.Bool.{cases_lt}
use Rattle.std.proofs.lemmas.List.{get_or_append_left}
use Rattle.std.proofs.Math.Seq.{get_or-append_seam}
use Rattle.dude_base.specs.declared.write.Write.{Write}
use Rattle.dude_base.specs.Writes.{overwritten}
use Rattle.dude_base.specs.Image.{image_words}
use Rattle.pmem_trait.specs.declared.medium.Medium.{Ghosts}
use Rattle.pmem_trait.specs.Words.{EveryImage}
use Rattle.pmem_trait.specs.Sights.{Sight, state_now, AtEveryMoment}
use Rattle.pmem_trait.proofs.Laws.{every_moment_then, every_moment_weaker}
use Rattle.tatp_model.specs.declared.done.Done.{Done}
use Rattle.tatp_model.specs.Database.{Database}
use Rattle.tatp_model.specs.OneThread.{after_number}
use Rattle.tatp_layout.specs.StandsFor.{StandsFor}
use Rattle.log_numbered.specs.declared.run_log.RunLog.{RunLog}
use Rattle.log_numbered.specs.Arrays.{RunArrays, RecoversIn, array_at, last_number, with_writes}
use Rattle.log_numbered.specs.RunLog.{Follows, IsAlive, RecoversOn, log_back, log_end, log_sizes}
use Rattle.log_numbered.proofs.GoingOn.{recovers_here}
use Rattle.dude_engine.specs.Opening.{Opening}
use Rattle.dude_engine.specs.Running.{AreAnswered, HasArrays, FollowsRun, RecoversNearLast, RecoversSoFar, last_performed, tables_after}
use Rattle.dude_engine.proofs.Numbering.{IsNext, last_push, last_rises, tables_at_last, tables_kept, number_unwritten, number_written, answered_push}

-- ---- one array more

pub last_more : (writes : List Write) (a : RunArrays) → last_number (with_writes writes a) ≡ last_number a + 1
last_more writes a = omega (arith, length-append a.others (overwritten writes (array_at a (last_number a)) ∷ []))

pub array_before : (writes : List Write) (a : RunArrays) (n : ℕ) → n ≤ last_number a → array_at (with_writes writes a) n ≡ array_at a n
array_before writes a n within =
    let below : n - a.first < length (a.opening ∷ a.others) = omega (arith, within) in
    get_or_append_left (a.opening ∷ a.others) (overwritten writes (array_at a (last_number a)) ∷ []) [] (n - a.first) below

pub array_new : (writes : List Write) (a : RunArrays) → array_at (with_writes writes a) (last_number a + 1) ≡ overwritten writes (array_at a (last_number a))
array_new writes a =
    let at : (a.first + length a.others + 1) - a.first ≡ length (a.opening ∷ a.others) = omega arith in
    let new = overwritten writes (array_at a (last_number a)) in
    ap (λ (i : ℕ). get_or ((a.opening ∷ a.others) ++ new ∷ []) i []) at ∙ get_or-append_seam (a.opening ∷ a.others) new [] []

-- up to the new last number it is one up to the old one, or the new one
either_way : (n low high : ℕ) → high ≡ low + 1 → n ≤ high → (n ≤ low) ⊎ (n ≡ high)
either_way n low high is within = ⊎_elim (λ (above : low < n). inr (omega (arith, is, within, above))) (λ (upto : n ≤ low). inl upto) (cases_lt low n)

-- ---- the arrays stand for the databases

pub arrays_start : (opening : Opening) (words : List ℕ) → StandsFor opening.sizes words opening.database
    → HasArrays opening [] words (record { first = opening.number; opening = words; others = [] })
arrays_start opening words stands = record {
  first = refl;
  last_is = omega arith;
  stand = λ n from most.
      let at : n - opening.number ≡ 0 = omega (arith, from, most) in
      subst (λ (i : ℕ). StandsFor opening.sizes (get_or (words ∷ []) i []) opening.database) (sym at) stands;
  last = let at : (opening.number + 0) - opening.number ≡ 0 = omega arith in ap (λ (i : ℕ). get_or (words ∷ []) i []) at;
}

-- a request that wrote nothing leaves them
pub arrays_read : (opening : Opening) (performed : List Done) (d : Done) (words : List ℕ) (a : RunArrays) → IsNext opening performed d → d.wrote ≡ false
    → HasArrays opening performed words a → HasArrays opening (performed ++ d ∷ []) words a
arrays_read opening performed d words a next unwritten has = record {
  first = has.first;
  last_is = has.last_is ∙ sym (number_unwritten opening performed d next unwritten) ∙ sym (last_push opening.number performed d);
  stand = λ n from most.
      let within : n ≤ last_performed opening.number performed = omega (arith, most, has.last_is) in
      subst (λ (db : Database). StandsFor opening.sizes (array_at a n) db) (sym (tables_kept opening performed d n next within)) (has.stand n from most);
  last = has.last;
}

-- one that wrote adds an array
pub arrays_write : (opening : Opening) (performed : List Done) (d : Done) (writes : List Write) (words new : List ℕ) (a : RunArrays) → AreAnswered opening performed → IsNext opening performed d → d.wrote ≡ true
    → new ≡ overwritten writes words → StandsFor opening.sizes new (tables_after opening (performed ++ d ∷ []))
    → HasArrays opening performed words a → HasArrays opening (performed ++ d ∷ []) new (with_writes writes a)
arrays_write opening performed d writes words new a answered next written is stands has =
    let number : d.number ≡ last_performed opening.number performed + 1 = number_written opening performed d next written in
    let last_is : last_number (with_writes writes a) ≡ last_performed opening.number (performed ++ d ∷ []) = omega (arith, last_more writes a, has.last_is, number, last_push opening.number performed d) in
    let last : array_at (with_writes writes a) (last_number (with_writes writes a)) ≡ new =
    ap (λ (n : ℕ). array_at (with_writes writes a) n) (last_more writes a) ∙ array_new writes a ∙ ap (λ (l : List ℕ). overwritten writes l) has.last ∙ sym is in
    record {
      first = has.first;
      last_is = last_is;
      stand = λ n from most. ⊎_elim
          (λ (low : n ≤ last_number a).
          let within : n ≤ last_performed opening.number performed = omega (arith, low, has.last_is) in
          subst (λ (l : List ℕ). StandsFor opening.sizes l (after_number opening.sizes.calls opening.database (performed ++ d ∷ []) n)) (sym (array_before writes a n low))
          (subst (λ (db : Database). StandsFor opening.sizes (array_at a n) db) (sym (tables_kept opening performed d n next within)) (has.stand n from low)))
          (λ (same : n ≡ last_number (with_writes writes a)).
          let over : last_performed opening.number (performed ++ d ∷ []) ≤ n = omega (arith, same, last_is) in
          subst (λ (l : List ℕ). StandsFor opening.sizes l (after_number opening.sizes.calls opening.database (performed ++ d ∷ []) n)) (sym (ap (λ (k : ℕ). array_at (with_writes writes a) k) same ∙ last))
          (subst (λ (db : Database). StandsFor opening.sizes new db) (sym (tables_at_last opening (performed ++ d ∷ []) n (answered_push opening performed d answered next) over)) stands))
          (either_way n (last_number a) (last_number (with_writes writes a)) (last_more writes a) most);
      last = last;
    }

-- ---- the images

-- images of the log's arrays recover to databases of the run
pub so_far_among : (before least : ℕ) (opening : Opening) (performed : List Done) (words : List ℕ) (a : RunArrays) (told image : List ℕ) → HasArrays opening performed words a → opening.number ≤ least
    → RecoversIn opening.sizes a least before told image → RecoversSoFar before opening performed told image
so_far_among before least opening performed words a told image has low among = record {
  number = among.number;
  from = omega (arith, low, among.from);
  floor = among.floor;
  most = omega (arith, among.most, has.last_is);
  recovers = record { array = array_at a among.number; recovered = among.recovered; same_sizes = among.same_sizes; stands = has.stand among.number (omega (arith, low, among.from)) among.most };
}

-- and near the last number, where those arrays are
near_among : (before least most : ℕ) (opening : Opening) (performed : List Done) (words : List ℕ) (a : RunArrays) (told image : List ℕ) → HasArrays opening performed words a → opening.number ≤ least → last_number a ≤ least + most
    → RecoversIn opening.sizes a least before told image → RecoversNearLast most opening performed image
near_among before least most opening performed words a told image has low near among = (
  among.number,
  omega (arith, near, among.from, has.last_is),
  record { array = array_at a among.number; recovered = among.recovered; same_sizes = among.same_sizes; stands = has.stand among.number (omega (arith, low, among.from)) among.most },
)

pub near_at_end : (before least most : ℕ) (opening : Opening) (performed : List Done) (words : List ℕ) (a : RunArrays) (s t : Sight) → HasArrays opening performed words a → opening.number ≤ least → last_number a ≤ least + most → IsTrue s.is_visible
    → AtEveryMoment (RecoversIn opening.sizes a least before) s t → EveryImage t.len (λ told image. RecoversNearLast most opening performed image) (state_now t)
near_at_end before least most opening performed words a s t has low near visible moments =
    let at = moments.each visible t.now moments.later.now (omega arith) in
    subst (λ (n : ℕ). EveryImage n (λ told image. RecoversNearLast most opening performed image) (state_now t)) (sym moments.later.len)
    (record { each = λ image is. near_among before least most opening performed words a (state_now t).told image has low near (at.each image is) })

-- later requests leave what an image recovers to
pub so_far_push : (before : ℕ) (opening : Opening) (performed : List Done) (d : Done) (told image : List ℕ) → IsNext opening performed d
    → RecoversSoFar before opening performed told image → RecoversSoFar before opening (performed ++ d ∷ []) told image
so_far_push before opening performed d told image next so_far =
    let r = so_far.recovers in
    record {
      number = so_far.number;
      from = so_far.from;
      floor = so_far.floor;
      most = omega (arith, so_far.most, last_rises opening performed d next);
      recovers = record {
        array = r.array;
        recovered = r.recovered;
        same_sizes = r.same_sizes;
        stands = subst (λ (db : Database). StandsFor opening.sizes r.array db) (sym (tables_kept opening performed d so_far.number next so_far.most)) r.stands;
      };
    }

-- along one call more
pub moments_on : {M : Type 0} {ghosts : Ghosts M} (before : ℕ) (opening : Opening) (performed later : List Done) (words new : List ℕ) (more : RunArrays → RunArrays) (l : RunLog M ghosts) (s t u : Sight)
    → log_sizes l ≡ opening.sizes
    → ((told image : List ℕ) → RecoversSoFar before opening performed told image → RecoversSoFar before opening later told image)
    → ((a : RunArrays) → HasArrays opening performed words a → HasArrays opening later new (more a))
    → AtEveryMoment (RecoversSoFar before opening performed) s t → FollowsRun before opening performed words l t → RecoversOn more l t u → AtEveryMoment (RecoversSoFar before opening later) s u
moments_on before opening performed later words new more l s t u sizes grows arrays moments follows recovers =
    let low : opening.number ≤ log_end l = (let from = follows.follows.carried.from in let first = follows.has.first in omega arith) in
    every_moment_then (every_moment_weaker (λ told image size so_far. grows told image so_far) moments)
    (every_moment_weaker (λ told image size among. so_far_among before (log_end l) opening later new (more follows.arrays) told image (arrays follows.arrays follows.has) low
    (subst (λ z. RecoversIn z (more follows.arrays) (log_end l) before told image) sizes among)) (recovers before follows.arrays follows.follows))

-- a log at rest: every image recovers to an array from the last one persisted on
pub images_rest : {M : Type 0} {ghosts : Ghosts M} (before : ℕ) (a : RunArrays) (l : RunLog M ghosts) (s : Sight) → image_words (log_sizes l) ≤ s.len → IsAlive l → Follows before a l s → IsTrue s.is_visible
    → EveryImage s.len (RecoversIn (log_sizes l) a (log_end l) before) (state_now s)
images_rest before a l s room alive follows visible =
    let moments = recovers_here (log_back l) (log_end l) s room alive.leads before a tt follows.carried in
    moments.each visible s.now (omega arith) (omega arith)
