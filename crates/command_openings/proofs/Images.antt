-- What holds of an opened image, and of every image of its medium.
use Rattle.std.proofs.Common.{◌≡◌, ℕ, ◌+◌, ◌*◌, ◌≤◌, true, false, List, [], ◌∷◌, ◌++◌, length, drop, refl, sym, ap, ◌∙◌, subst, inl, inr, arith}
use Rattle.std.proofs.lemmas.List.{length-append}
use Rattle.std.proofs.lemmas.List.FromFn.{length-map-range_with_len}
use Rattle.std.proofs.lemmas.List.Sorted.{length_permutation}
use Rattle.std.proofs.Math.Seq.{drop-append_seam, drop-length}
use Rattle.dude_base.specs.declared.sizes.Sizes.{Sizes}
use Rattle.pmem_trait.specs.declared.medium.Medium.{Ghosts}
use Rattle.pmem_trait.specs.Words.{IsIn, AtLeast}
use Rattle.tatp_model.specs.Database.{Database}
use Rattle.tatp_layout.specs.Layout.{call_table}
use Rattle.tatp_layout.specs.StandsFor.{StandsFor}
use Rattle.hash_table.specs.Table.{records_in}
use Rattle.record_heap.specs.Pool.{records_of}
use Rattle.redo_record.specs.Waiting.{AreDisjoint, IsArrayAt}
use Rattle.redo_record.specs.LogState.{RecoversAmong}
use Rattle.redo_record.proofs.WaitingRecords.{waiting_law}
use Rattle.back_store.specs.Backlog.{log_of}
use Rattle.back_store.proofs.EmptyLanes.{none_waiting}
use Rattle.back_store.specs.Back.{IsEnd, idle, waiting_now}
use Rattle.image_recovery.specs.Recovered.{RecoversTo}
use Rattle.dude_recover.specs.Answers.{StillRecovers}
use Rattle.dude_recover.specs.declared.opened.Opened.{Opened}
use Rattle.dude_recover.specs.Opened.{IsOpened}
use Rattle.dude_recover.specs.NewImages.{RecoversOnceTold}
use Rattle.dude_engine.specs.Opening.{Opening, IsOpening}
use Rattle.dude_engine.specs.Plain.{IsOpeningOf}
use Rattle.command_openings.specs.Opens.{ShowsOpening}
use Rattle.command_openings.specs.Openings.{new_opening}

-- There are no more call rows than there is room for.
pub calls_fit : (s : Sizes) (array : List ℕ) (db : Database) → StandsFor s array db → length db.calls ≤ s.calls
calls_fit s array db stands =
    let rows = stands.calls in
    let records = records_in rows.chains in
    let all : length (rows.free ++ records) ≡ length (records_of (call_table s).pool) = length_permutation (records_of (call_table s).pool) (rows.free ++ records) rows.lawful.pool.once in
    let pool : length (records_of (call_table s).pool) ≡ s.calls = length-map-range_with_len (λ k. (call_table s).pool.first + (call_table s).pool.size * k) 0 s.calls in
    let taken : length (rows.free ++ records) ≡ length rows.free + length records = length-append rows.free records in
    let count : length records ≡ length db.calls = rows.count in
    omega (arith, all, pool, taken, count)

pub opening_lawful : {M : Type 0} {ghosts : Ghosts M} (o : Opened M ghosts) (opening : Opening) → IsOpened o → IsOpeningOf o opening → IsOpening opening
opening_lawful o opening opened is = record {
  small = omega (arith, is.number, opened.small);
  accepted = rw is.sizes opened.accepted;
  in_order = is.stands.in_order;
  room = rw is.sizes (calls_fit o.sizes o.words.items opening.database is.stands);
}

-- no number was told behind all those told
pub none_behind : (told : List ℕ) (number : ℕ) → AtLeast (length told) told number
none_behind told number x among = absurd (subst (λ (l : List ℕ). IsIn x l) (drop-length told) among)

-- one number was told
pub one_behind : (before told : List ℕ) (number : ℕ) → told ≡ before ++ number ∷ [] → AtLeast (length before) told number
one_behind before told number e x is = only (subst (λ (l : List ℕ). IsIn x l) (ap (drop (length before)) e ∙ drop-append_seam before (number ∷ [])) is)
  where
    only : IsIn x (number ∷ []) → x ≤ number
    only (inl z) = omega arith
    only (inr none) = absurd none

-- while an image is opened
pub still_shows : (before : List ℕ) (opening : Opening) (told image : List ℕ) → StillRecovers before opening.number opening.sizes opening.database told image
    → ShowsOpening false (length before) opening told image
still_shows before opening told image still =
    inr (subst (λ (l : List ℕ). AtLeast (length before) l opening.number) (sym still.0) (none_behind before opening.number), still.1)

-- while an image is made
pub made_shows : (sizes : Sizes) (before told image : List ℕ) → RecoversOnceTold sizes before told image → ShowsOpening true (length before) (new_opening sizes) told image
made_shows sizes before told image (inl same) = inl (refl, ap (drop (length before)) same ∙ drop-length before)
made_shows sizes before told image (inr shown) = inr (one_behind before told 0 shown.0, shown.1)

-- where nothing waits, no two bundles cover one number
idle_disjoint : (s : Sizes) (number : ℕ) → AreDisjoint (waiting_now (idle s number))
idle_disjoint s number v w covered among other low high = absurd (none_waiting s v among)

-- the end of a back where nothing waits is its number
pub idle_end : (s : Sizes) (number : ℕ) → IsEnd (idle s number) number
idle_end s number = record {
  records = [];
  lead = waiting_law.here (waiting_now (idle s number)) number;
  greatest = λ w among. absurd (none_waiting s w among);
}

pub idle_ends : (s : Sizes) (number end : ℕ) → IsEnd (idle s number) end → end ≡ number
idle_ends s number end is = waiting_law.one_end (waiting_now (idle s number)) number end number (idle_disjoint s number) is (idle_end s number)

-- the array of such a back is its home
idle_array : (s : Sizes) (number : ℕ) (home array : List ℕ) → IsArrayAt (waiting_now (idle s number)) number home number array → array ≡ home
idle_array s number home array is =
    waiting_law.one_array (waiting_now (idle s number)) number number home array home (idle_disjoint s number) is
    (waiting_law.at_home (waiting_now (idle s number)) number home)

-- while such a back announces
pub idle_shows : (before number : ℕ) (words home : List ℕ) (opening : Opening) (told image : List ℕ) → number ≡ opening.number → home ≡ words → StandsFor opening.sizes words opening.database
    → RecoversAmong (log_of (idle opening.sizes number).log home) before number number told image → ShowsOpening false before opening told image
idle_shows before number words home opening told image is same stands among =
    let here : among.number ≡ number = omega (arith, among.least, among.most) in
    let P : ℕ → Type 0 = λ n. AtLeast before told n in
    let Q : ℕ → Type 0 = λ n. RecoversTo image n opening.sizes opening.database in
    let array_is : among.array ≡ words = idle_array opening.sizes number home among.array (subst (λ (n : ℕ). IsArrayAt (waiting_now (idle opening.sizes number)) number home n among.array) here among.is_array) ∙ same in
    inr (
      subst P (here ∙ is) among.floor,
      subst Q (here ∙ is) (record {
        array = among.array;
        recovered = among.recovered;
        same_sizes = among.same_sizes;
        stands = subst (λ (l : List ℕ). StandsFor opening.sizes l opening.database) (sym array_is) stands;
      }),
    )
