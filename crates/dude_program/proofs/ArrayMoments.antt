-- While an image is opened and its number told, every image recovers to the array to which the content at entry recovers.
use Rattle.std.proofs.Common.{◌≡◌, ◌⊎◌, ℕ, ◌≤◌, Bool, true, IsTrue, List, [], ◌∷◌, ◌++◌, length, refl, sym, ap, ◌∙◌, subst, inl, inr, arith}
use Rattle.dude_base.specs.declared.limits.TheConstants.{MAX_NUMBER}
use Rattle.dude_base.specs.declared.sizes.Sizes.{Sizes}
use Rattle.pmem_trait.specs.Words.{AfterEachCall, AfterEachCall.end, AfterEachCall.more, AtLeast, EveryImage, IsContent, IsSettled, IsSettledWord, after, value_of}
use Rattle.pmem_trait.specs.declared.call.Call.TheVariants.{Tell}
use Rattle.pmem_trait.specs.Sights.{AtEveryMoment, Sight, state_now}
use Rattle.pmem_trait.specs.Reads.{ContentHas, IsSameState, OnlyReads}
use Rattle.pmem_trait.proofs.Laws.{every_moment_here, every_moment_on, every_moment_weaker}
use Rattle.pmem_trait.proofs.ReadRuns.{reads_same}
use Rattle.pmem_trait.proofs.Runs.{made_later}
use Rattle.redo_record.specs.Images.{version_of}
use Rattle.image_recovery.specs.Recovered.{RecoversArray}
use Rattle.image_recovery.proofs.OneRecovery.{same_replay}
use Rattle.dude_recover.specs.Answers as answers
use Rattle.dude_recover.specs.OpeningCalls.{opening_calls, stale_lines}
use Rattle.dude_recover.specs.OpeningLaw.{StillRecoversArray}
use Rattle.dude_recover.proofs.OpeningStates.{opening_law}
use Rattle.dude_recover.proofs.SettledReads.{image_content, reads_keep}
use Rattle.dude_follow.specs.Applying.{RecoversAlong}
use Rattle.command_edges.specs.declared.fault.Fault.{Fault}
use Rattle.command_edges.specs.declared.fault.Fault.TheVariants.{Damaged, Device, Memory, NotDb, Unformatted}
use Rattle.command_openings.specs.Faults.{HasOpenFault}
use Rattle.command_openings.specs.Opens.{FailsOpening, OpensAndTells}
use Rattle.command_openings.proofs.Images.{none_behind, one_behind}
use Rattle.command_openings.proofs.OneOpening.{content_of}

-- nothing was told, or this number alone; and the image recovers to it and to this array
abbrev Shows : List ℕ → Sizes → ℕ → List ℕ → List ℕ → List ℕ → Type 0
Shows before sizes number words told image = ((told ≡ before) ⊎ (told ≡ before ++ number ∷ [])) × RecoversArray sizes number words image

still_along : (before : List ℕ) (sizes : Sizes) (number : ℕ) (words told image : List ℕ) → Shows before sizes number words told image → RecoversAlong sizes number [] words (length before) told image
still_along before sizes number words told image shows = record {
  front = [];
  rest = [];
  split = refl;
  number = number;
  lead = refl;
  recovered = shows.1.recovered;
  same_sizes = shows.1.same_sizes;
  floor = elim shows.0 [
    | inl same ↦ subst (λ (l : List ℕ). AtLeast (length before) l number) (sym same) (none_behind before number)
    | inr told_more ↦ one_behind before told number told_more
  ];
}

-- ---- a medium at rest, and one that is only read

module _ (s : Sight) (settled : IsTrue s.is_visible → IsSettled s.len (state_now s)) {sizes : Sizes} {number : ℕ} {words : List ℕ} (recovered : ContentHas (RecoversArray sizes number words) s) where
  at_entry : IsTrue s.is_visible → EveryImage s.len (StillRecoversArray (state_now s).told sizes number words) (state_now s)
  at_entry visible = record { each = λ image is. (refl, recovered visible image (image_content (settled visible) is)) }

  abbrev Kept : List ℕ → List ℕ → Type 0
  Kept = StillRecoversArray (state_now s).told sizes number words

  kept_along : {t : Sight} → AtEveryMoment Kept s t → AtEveryMoment (RecoversAlong sizes number [] words (length (state_now s).told)) s t
  kept_along kept = every_moment_weaker (λ told image long still. still_along (state_now s).told sizes number words told image (inl still.0, still.1)) kept

  pub rest_along : AtEveryMoment (RecoversAlong sizes number [] words (length (state_now s).told)) s s
  rest_along = kept_along (every_moment_here Kept at_entry)

  pub read_along : {ok : Bool} {t : Sight} → OnlyReads ok s t → AtEveryMoment (RecoversAlong sizes number [] words (length (state_now s).told)) s t
  read_along reads = kept_along (reads_keep Kept reads at_entry)

  -- ---- one whose image is opened

  module _ (small : number ≤ MAX_NUMBER) {ok : Bool} {t : Sight} (opens : answers.Opens ok sizes number words s t) where
    same_state : IsTrue s.is_visible → IsSameState (state_now s) (state_now opens.read)
    same_state visible = reads_same true s opens.read opens.reads visible opens.read.now (made_later opens.reads.made).now (omega arith)

    law : IsTrue s.is_visible → AfterEachCall (EveryImage s.len Kept) (state_now opens.read) (opening_calls opens.version sizes number words opens.stale)
    law visible =
        let same = same_state visible in
        let p = state_now opens.read in
        let content = content_of s in
        let own = content.1 in
        let is : IsContent s.len p content.0 = record { size = own.size; each = λ k lt. own.each k lt ∙ ap value_of (sym (same.word k)) } in
        let still : IsSettled s.len p = λ k lt. subst IsSettledWord (sym (same.word k)) (settled visible k lt) in
        let both = opening_law sizes number words content.0 s.len p is still (recovered visible content.0 own) small in
        let Law : ℕ → List ℕ → Type 0 = λ v ls. AfterEachCall (EveryImage s.len Kept) p (opening_calls v sizes number words ls) in
        let told = subst (λ (told : List ℕ). AfterEachCall (EveryImage s.len (StillRecoversArray told sizes number words)) p (opening_calls (version_of content.0) sizes number words (stale_lines sizes number content.0))) same.told both.0 in
        subst (λ (v : ℕ). Law v opens.stale) (sym (opens.named visible content.0 own)) (subst (Law (version_of content.0)) (sym (opens.heads visible content.0 own)) told)

    opens_kept : AtEveryMoment Kept s t
    opens_kept = every_moment_on Kept (reads_keep Kept opens.reads at_entry) opens.made law

    pub opens_along : AtEveryMoment (RecoversAlong sizes number [] words (length (state_now s).told)) s t
    opens_along = kept_along opens_kept

  -- and whose number is then told
  pub tells_along : {ok : Bool} {t : Sight} → number ≤ MAX_NUMBER → OpensAndTells ok sizes number words s t → AtEveryMoment (RecoversAlong sizes number [] words (length (state_now s).told)) s t
  tells_along small tells =
      every_moment_weaker (λ told image long shows. still_along (state_now s).told sizes number words told image shows)
      (every_moment_on (Shows (state_now s).told sizes number words)
      (every_moment_weaker (λ told image long still. (inl still.0, still.1)) (opens_kept small tells.opens)) tells.tells (λ visible.
      let here : EveryImage s.len Kept (state_now tells.opened) = (opens_kept small tells.opens).each visible tells.opened.now (opens_kept small tells.opens).later.now (omega arith) in
      let behind : EveryImage s.len (Shows (state_now s).told sizes number words) (after (Tell number) (state_now tells.opened)) =
      record { each = λ image is. let still = here.each image (record { size = is.size; each = is.each }) in (inr (ap (λ (l : List ℕ). l ++ number ∷ []) still.0), still.1) } in
      more (record { each = λ image is. let still = here.each image is in (inl still.0, still.1) }) (end behind)))

  -- the number and the array are those of any other recovery of the content
  pub one_array : {z : Sizes} {n : ℕ} {l : List ℕ} → IsTrue s.is_visible → ContentHas (RecoversArray z n l) s → (number ≡ n) × (words ≡ l) × (sizes ≡ z)
  one_array visible other =
      let content = content_of s in
      let a = recovered visible content.0 content.1 in
      let b = other visible content.0 content.1 in
      let same = same_replay content.0 number _ words _ a.recovered b.recovered in
      (same.0, same.1, sym a.same_sizes ∙ b.same_sizes)

  -- so what every image recovers to is said of these
  along_as : {z : Sizes} {n : ℕ} {l : List ℕ} {before : ℕ} {t : Sight} → ContentHas (RecoversArray z n l) s → AtEveryMoment (RecoversAlong z n [] l before) s t
      → AtEveryMoment (RecoversAlong sizes number [] words before) s t
  along_as {z} {n} {l} {before} {t} other moments = record {
    later = moments.later;
    each = λ visible at from upto.
        let same = one_array visible other in
        subst (λ (z : Sizes). EveryImage s.len (RecoversAlong z number [] words before) (t.state at)) (sym same.2)
        (subst (λ (n : ℕ). EveryImage s.len (RecoversAlong z n [] words before) (t.state at)) (sym same.0)
        (subst (λ (l : List ℕ). EveryImage s.len (RecoversAlong z n [] l before) (t.state at)) (sym same.1) (moments.each visible at from upto)));
  }

-- an opening that stopped
module _ (s t : Sight) (settled : IsTrue s.is_visible → IsSettled s.len (state_now s)) {sizes : Sizes} {number : ℕ} {words : List ℕ} (recovered : ContentHas (RecoversArray sizes number words) s) where
  some_along : {ok : Bool} → answers.OpensSome ok s t → AtEveryMoment (RecoversAlong sizes number [] words (length (state_now s).told)) s t
  some_along (inl reads) = read_along s settled recovered reads
  some_along (inr way) = along_as s settled recovered way.recovered (opens_along s settled way.recovered way.is.small way.calls)

  opening_along : FailsOpening s t → AtEveryMoment (RecoversAlong sizes number [] words (length (state_now s).told)) s t
  opening_along (inl some) = some_along some
  opening_along (inr way) = along_as s settled recovered way.recovered (tells_along s settled way.recovered way.is.small way.calls)

  pub unopened_along : (fault : Fault) → HasOpenFault s t fault → AtEveryMoment (RecoversAlong sizes number [] words (length (state_now s).told)) s t
  unopened_along Unformatted has = read_along s settled recovered has.1
  unopened_along (Damaged line) has = read_along s settled recovered has.1
  unopened_along (NotDb word) has = read_along s settled recovered has.1
  unopened_along Device has = opening_along has.1
  unopened_along Memory has = some_along has
  unopened_along fault has = absurd has

  -- and one that went well
  pub opened_along : {z : Sizes} {n : ℕ} {l : List ℕ} → ContentHas (RecoversArray z n l) s → n ≤ MAX_NUMBER → OpensAndTells true z n l s t
      → AtEveryMoment (RecoversAlong sizes number [] words (length (state_now s).told)) s t
  opened_along own small tells = along_as s settled recovered own (tells_along s settled own small tells)
