-- A settled medium leaves its content in a crash, also while it is read.
use Rattle.std.proofs.Common.{ℕ, Bool, IsTrue, List, [], ◌∷◌, map, refl, sym, ap, ◌∙◌}
use Rattle.dude_base.specs.declared.sizes.Sizes.{Sizes}
use Rattle.pmem_trait.specs.declared.call.Call.TheVariants.{Read}
use Rattle.pmem_trait.specs.Words.{State, value_of, IsContent, IsImage, IsSettled, EveryImage, AfterEachCall, AfterEachCall.end, AfterEachCall.more}
use Rattle.pmem_trait.specs.Sights.{Sight, state_now, AtEveryMoment}
use Rattle.pmem_trait.specs.Reads.{OnlyReads, ContentHas}
use Rattle.pmem_trait.proofs.Images.{may_still}
use Rattle.pmem_trait.proofs.Laws.{made_keep}
use Rattle.tatp_model.specs.Database.{Database}
use Rattle.image_recovery.specs.Recovered.{RecoversTo}
use Rattle.dude_recover.specs.Answers.{StillRecovers}

-- each image of a settled medium is its content
pub image_content : {len : ℕ} {p : State} {image : List ℕ} → IsSettled len p → IsImage len p image → IsContent len p image
image_content {p = p} settled is = record {
  size = is.size;
  each = λ k lt. may_still _ _ _ (settled k lt) (is.each k lt) ∙ sym (ap value_of (settled k lt));
}

-- so it recovers as the content does
pub content_kept : (s : Sight) {number : ℕ} {sizes : Sizes} {db : Database} → (IsTrue s.is_visible → IsSettled s.len (state_now s)) → ContentHas (λ content. RecoversTo content number sizes db) s
    → IsTrue s.is_visible → EveryImage s.len (StillRecovers (state_now s).told number sizes db) (state_now s)
content_kept s settled has visible = record { each = λ image is. (refl, has visible image (image_content (settled visible) is)) }

-- reads leave the state as it is
reads_stay : {P : State → Type 0} (p : State) (words : List ℕ) → P p → AfterEachCall P p (map Read words)
reads_stay p [] holds = end holds
reads_stay p (at ∷ words) holds = more holds (reads_stay p words holds)

pub reads_keep : (P : List ℕ → List ℕ → Type 0) {ok : Bool} {s t : Sight} → OnlyReads ok s t → (IsTrue s.is_visible → EveryImage s.len P (state_now s)) → AtEveryMoment P s t
reads_keep P {s = s} reads holds = made_keep P reads.made (λ visible. reads_stay (state_now s) reads.words (holds visible))
