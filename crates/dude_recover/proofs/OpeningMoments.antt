-- An opening by the calls that it made: every image at every moment, and how it leaves the medium.
use Rattle.std.proofs.Common.{◌≡◌, inl, inr, ℕ, ◌≤◌, Bool, true, false, IsTrue, List, ◌++◌, map, refl, sym, ap, ◌∙◌, subst, arith}
use Rattle.std.specs.List.{range_with_len}
use Rattle.std.proofs.lemmas.List.FromFn.{length-map-range_with_len, get_or-map-range_with_len}
use Rattle.dude_base.specs.declared.limits.TheConstants.{MAX_NUMBER, VERSION}
use Rattle.dude_base.specs.declared.sizes.Sizes.{Sizes}
use Rattle.pmem_trait.specs.declared.call.Call.TheVariants.{Read}
use Rattle.pmem_trait.specs.Words.{State, value_of, IsContent, IsSettled, IsSettledWord, EveryImage, AfterEachCall, AtLeast, after_all}
use Rattle.pmem_trait.specs.Sights.{Sight, state_now, Risen, SomeCalls, AtEveryMoment}
use Rattle.pmem_trait.specs.Reads.{OnlyReads, IsSameState, ContentHas}
use Rattle.pmem_trait.proofs.Laws.{every_moment_on}
use Rattle.pmem_trait.proofs.ReadRuns.{reads_same}
use Rattle.pmem_trait.proofs.Runs.{made_cause, made_here, made_later, made_then}
use Rattle.redo_record.specs.Images.{version_of}
use Rattle.tatp_model.specs.Database.{Database}
use Rattle.tatp_layout.specs.StandsFor.{StandsFor, IsLawful}
use Rattle.back_store.specs.Images.{IsIdleMedium}
use Rattle.back_store.proofs.RestingHome.{home_is, idle_keeps}
use Rattle.image_recovery.specs.declared.open_fault.OpenFault.{OpenFault}
use Rattle.image_recovery.specs.declared.open_fault.OpenFault.TheVariants.{Unformatted, Damaged, NotDb, Device, NoMemory}
use Rattle.image_recovery.specs.Recovered.{IsRecovered, RecoversArray, RecoversTo}
use Rattle.image_recovery.proofs.OneRecovery.{same_replay}
use Rattle.dude_recover.specs.Answers.{Opens, OpensAt, OpensSome, LeftBy, StopsBy, StillRecovers}
use Rattle.dude_recover.specs.Opened.{HasToldNoMore}
use Rattle.dude_recover.specs.OpeningCalls.{stale_lines, opening_calls}
use Rattle.dude_recover.specs.OpeningLaw.{StillRecoversArray, IsOpenedState}
use Rattle.dude_recover.proofs.OpeningStates.{opening_law}
use Rattle.dude_recover.proofs.SettledReads.{image_content, content_kept, reads_keep}

-- a medium has a content
content_of : ℕ → State → List ℕ
content_of len p = map (λ k. value_of (p.word k)) (range_with_len 0 len)

is_content : (len : ℕ) (p : State) → IsContent len p (content_of len p)
unfolding content_of
is_content len p = record {
  size = length-map-range_with_len (λ k. value_of (p.word k)) 0 len;
  each = λ k lt. get_or-map-range_with_len (λ k. value_of (p.word k)) 0 len k k 0 lt (omega arith);
}

-- where the content recovers to a database, what recovers to its number and its array does so too
recovers_to : (s : Sight) {sizes z : Sizes} {number n : ℕ} {words : List ℕ} {db : Database} → ContentHas (RecoversArray sizes number words) s → ContentHas (λ content. RecoversTo content n z db) s → IsTrue s.is_visible
    → (image : List ℕ) → RecoversArray sizes number words image → RecoversTo image n z db
recovers_to s {sizes} {z} {number} {n} {words} {db} array to visible image is =
    let content = content_of s.len (state_now s) in
    let one = array visible content (is_content s.len (state_now s)) in
    let other = to visible content (is_content s.len (state_now s)) in
    let both = same_replay content number n words other.array one.recovered other.recovered in
    let same : sizes ≡ z = sym one.same_sizes ∙ other.same_sizes in
    subst (λ (m : ℕ). RecoversTo image m z db) both.0 (record {
      array = words;
      recovered = is.recovered;
      same_sizes = is.same_sizes ∙ same;
      stands = subst (λ (l : List ℕ). StandsFor z l db) (sym both.1) other.stands;
    })

module _ {ok : Bool} {sizes : Sizes} {number : ℕ} {words : List ℕ} {s t : Sight} (settled : IsTrue s.is_visible → IsSettled s.len (state_now s)) (small : number ≤ MAX_NUMBER)
    (recovered : ContentHas (RecoversArray sizes number words) s) (opens : Opens ok sizes number words s t) where
  same_state : IsTrue s.is_visible → IsSameState (state_now s) (state_now opens.read)
  same_state visible = reads_same true s opens.read opens.reads visible opens.read.now (made_later opens.reads.made).now (omega arith)

  abbrev Kept : List ℕ → List ℕ → Type 0
  Kept = StillRecoversArray (state_now s).told sizes number words

  law : IsTrue s.is_visible → AfterEachCall (EveryImage s.len Kept) (state_now opens.read) (opening_calls opens.version sizes number words opens.stale)
      × IsOpenedState sizes number words (state_now opens.read) (after_all (opening_calls opens.version sizes number words opens.stale) (state_now opens.read))
  law visible =
      let same = same_state visible in
      let p = state_now opens.read in
      let content = content_of s.len (state_now s) in
      let own = is_content s.len (state_now s) in
      let is : IsContent s.len p content = record { size = own.size; each = λ k lt. own.each k lt ∙ ap value_of (sym (same.word k)) } in
      let still : IsSettled s.len p = λ k lt. subst IsSettledWord (sym (same.word k)) (settled visible k lt) in
      let both = opening_law sizes number words content s.len p is still (recovered visible content own) small in
      let Law : ℕ → List ℕ → Type 0 = λ v ls. AfterEachCall (EveryImage s.len Kept) p (opening_calls v sizes number words ls)
      × IsOpenedState sizes number words p (after_all (opening_calls v sizes number words ls) p) in
      let told = subst (λ (told : List ℕ). AfterEachCall (EveryImage s.len (StillRecoversArray told sizes number words)) p (opening_calls (version_of content) sizes number words (stale_lines sizes number content))) same.told both.0 in
      subst (λ (v : ℕ). Law v opens.stale) (sym (opens.named visible content own)) (subst (Law (version_of content)) (sym (opens.heads visible content own)) (told, both.1))

  -- the entry recovers so too
  at_entry : IsTrue s.is_visible → EveryImage s.len Kept (state_now s)
  at_entry visible = record { each = λ image is. (refl, recovered visible image (image_content (settled visible) is)) }

  array_moments : AtEveryMoment Kept s t
  array_moments = every_moment_on Kept (reads_keep Kept opens.reads at_entry) opens.made (λ visible. (law visible).0)

  pub opens_moments : (n : ℕ) (z : Sizes) (db : Database) → ContentHas (λ content. RecoversTo content n z db) s → AtEveryMoment (StillRecovers (state_now s).told n z db) s t
  opens_moments n z db to = record {
    later = array_moments.later;
    each = λ visible m from upto. record {
      each = λ image is. let both = (array_moments.each visible m from upto).each image is in (both.0, recovers_to s recovered to visible image both.1);
    };
  }

pub opens_calls : {ok : Bool} {sizes : Sizes} {number : ℕ} {words : List ℕ} {s t : Sight} → Opens ok sizes number words s t → SomeCalls ok s t
opens_calls {sizes = sizes} {number = number} {words = words} opens = (map Read opens.reads.words ++ opening_calls opens.version sizes number words opens.stale, made_then opens.reads.made opens.made)

-- and so are those of an opening that stopped
pub opened_some : {ok : Bool} {s t : Sight} → OpensSome ok s t → SomeCalls ok s t
opened_some (inl reads) = (map Read reads.words, reads.made)
opened_some (inr way) = opens_calls way.calls

-- where no call failed, the medium rests at the image
pub opens_rests : {sizes : Sizes} {number : ℕ} {words : List ℕ} {s t : Sight} → (IsTrue s.is_visible → IsSettled s.len (state_now s)) → number ≤ MAX_NUMBER
    → ContentHas (RecoversArray sizes number words) s → Opens true sizes number words s t → (before : ℕ) → HasToldNoMore before number s → IsTrue s.is_visible → IsIdleMedium before sizes number words (state_now t)
opens_rests {sizes} {number} {words} {s} {t} settled small recovered opens before no_more visible =
    let end = (law settled small recovered opens visible).1 in
    let there : state_now t ≡ after_all (opening_calls opens.version sizes number words opens.stale) (state_now opens.read) = made_here opens.made ((made_later opens.reads.made).is_visible ∙ visible) in
    let same = same_state settled small recovered opens visible in
    subst (λ (q : State). IsIdleMedium before sizes number words q) (sym there) (record {
      rest = end.rest;
      heads = end.heads;
      told = subst (λ (told : List ℕ). AtLeast before told number) (sym (end.told ∙ same.told)) (no_more visible);
    })

-- what is visible behind an opening was so before it
pub opens_visible : {ok : Bool} {sizes : Sizes} {number : ℕ} {words : List ℕ} {s t : Sight} → Opens ok sizes number words s t → IsTrue t.is_visible → IsTrue s.is_visible
opens_visible opens visible = sym ((made_later opens.made).is_visible ∙ (made_later opens.reads.made).is_visible) ∙ visible

-- what an opening leaves
pub opened_at : {sizes : Sizes} {number : ℕ} {words : List ℕ} {s t : Sight} → (IsTrue s.is_visible → IsSettled s.len (state_now s)) → IsRecovered s.len sizes number words
    → ContentHas (RecoversArray sizes number words) s → t.len ≡ s.len → Opens true sizes number words s t → OpensAt sizes number words s t
opened_at {sizes} {number} {words} {s} {t} settled is recovered len opens =
    let rests = opens_rests settled is.small recovered opens in
    record {
      found = is;
      recovered = recovered;
      len = len;
      calls = opens_calls opens;
      made = opens;
      rests = rests;
      holds = λ before told. record {
        keeps = idle_keeps before sizes number words t is.accepted is.small (λ visible. rests before told (opens_visible opens visible));
        home = λ visible. home_is VERSION sizes number words (state_now t) (rests before told (opens_visible opens visible)).rest;
      };
      moments = opens_moments settled is.small recovered opens;
    }

-- the same with equal parts
pub opened_same : {sizes z : Sizes} {number n : ℕ} {words l : List ℕ} {s t u : Sight} → z ≡ sizes → n ≡ number → l ≡ words → u ≡ t → OpensAt sizes number words s t → OpensAt z n l s u
opened_same {sizes} {z} {number} {n} {words} {l} {s} {t} {u} same_sizes same_number same_words same opens =
    subst (λ (z : Sizes). OpensAt z n l s u) (sym same_sizes)
    (subst (λ (n : ℕ). OpensAt sizes n l s u) (sym same_number)
    (subst (λ (l : List ℕ). OpensAt sizes number l s u) (sym same_words)
    (subst (λ (u : Sight). OpensAt sizes number words s u) (sym same) opens)))

-- what was recovered to a lawful array recovers to a database
pub array_recovers : (s : Sight) {sizes : Sizes} {number : ℕ} {words : List ℕ} → ContentHas (RecoversArray sizes number words) s → (lawful : IsLawful sizes words) → ContentHas (λ content. RecoversTo content number sizes lawful.0) s
array_recovers s {words = words} recovered lawful visible content is =
    let one = recovered visible content is in
    record { array = words; recovered = one.recovered; same_sizes = one.same_sizes; stands = lawful.1 }

-- where there is no such database, no call but reads was made
pub stops_reading : {s t : Sight} (fault : OpenFault) → ((number : ℕ) (sizes : Sizes) (db : Database) → ContentHas (λ content. RecoversTo content number sizes db) s → ⊥)
    → StopsBy fault s t → (ok : Bool) × OnlyReads ok s t
stops_reading {s} Unformatted nothing reads = (true, reads)
stops_reading {s} (Damaged line) nothing reads = (true, reads)
stops_reading {s} (NotDb word) nothing reads = (true, reads)
stops_reading {s} Device nothing (inl reads) = (false, reads)
stops_reading {s} Device nothing (inr way) = absurd (nothing way.number way.sizes way.is.lawful.0 (array_recovers s way.recovered way.is.lawful))
stops_reading {s} NoMemory nothing reads = (true, reads)

module _ (s t : Sight) (settled : IsTrue s.is_visible → IsSettled s.len (state_now s)) where
  -- what a fault leaves
  pub left_by : (fault : OpenFault) → StopsBy fault s t → LeftBy fault s t
  left_by Unformatted stops = stops
  left_by (Damaged line) stops = stops
  left_by (NotDb word) stops = stops
  left_by Device stops = stops
  left_by NoMemory reads = inl reads

  -- Device has a cause
  pub stops_cause : (fault : OpenFault) → StopsBy fault s t → fault ≡ Device → Risen s.faults t.faults
  stops_cause Unformatted stops is = absurd (cc)
  stops_cause (Damaged line) stops is = absurd (cc)
  stops_cause (NotDb word) stops is = absurd (cc)
  stops_cause Device stops is = made_cause (opened_some stops).1
  stops_cause NoMemory stops is = absurd (cc)

  module _ (number : ℕ) (sizes : Sizes) (db : Database) (to : ContentHas (λ content. RecoversTo content number sizes db) s) where
    only_read : {ok : Bool} → OnlyReads ok s t → AtEveryMoment (StillRecovers (state_now s).told number sizes db) s t
    only_read reads = reads_keep (StillRecovers (state_now s).told number sizes db) reads (content_kept s settled to)

    pub stopped_moments : (fault : OpenFault) → StopsBy fault s t → AtEveryMoment (StillRecovers (state_now s).told number sizes db) s t
    stopped_moments Unformatted reads = only_read reads
    stopped_moments (Damaged line) reads = only_read reads
    stopped_moments (NotDb word) reads = only_read reads
    stopped_moments Device (inl reads) = only_read reads
    stopped_moments Device (inr way) = opens_moments settled way.is.small way.recovered way.calls number sizes db to
    stopped_moments NoMemory reads = only_read reads
