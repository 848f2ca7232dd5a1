-- What a crash may leave of each word, at rest and while calls are under way.
use Rattle.std.proofs.Common.{◌≡◌, ◌≢◌, ℕ, ◌+◌, ◌*◌, ◌<◌, ◌⊎◌, List, [], ◌∷◌, ◌++◌, length, refl, sym, ap, ◌∙◌, subst, inl, inr, ⊎_elim, arith, All, length-append}
use Rattle.std.specs.Prelude.{slice_index}
use Rattle.std.specs.List.{Contains}
use mathlib.Core.Logic.{dite}
use native.Mathlib.Decide.{ℕ_discrete, dec_lt}
use Rattle.dude_base.specs.declared.limits.TheConstants.{MARK, PAGE, VERSION}
use Rattle.dude_base.specs.declared.write.Write.{Write}
use Rattle.dude_base.specs.Image.{Cell, cell_at, cell_start, home_word}
use Rattle.dude_base.specs.Records.{RedoBundle, Covers}
use Rattle.pmem_trait.specs.declared.call.Call.{Call}
use Rattle.pmem_trait.specs.Words.{State as MediumState, MayHold, after_all}
use Rattle.pmem_trait.proofs.Images.{may_still}
use Rattle.redo_record.specs.Tags.{number_of, head_tag, IsHeadOver}
use Rattle.redo_record.specs.Cells.{IsCell}
use Rattle.redo_record.specs.Fits.{HasHead, IsIntact, FitsRing, settled_mark}
use Rattle.redo_record.specs.AppendLaw.{CanAppend, Appending, IsBodySettled}
use Rattle.redo_record.specs.SettledRecords.{HoldSettled}
use Rattle.redo_record.specs.Rest.{RestsAt}
use Rattle.redo_record.specs.BackLaws.{Reproducing}
use Rattle.redo_record.specs.LogState.{IsWaiting}
use Rattle.redo_record.specs.Waiting.{Waiting}
use Rattle.redo_record.proofs.AppendedRecord.{append_law}
use Rattle.redo_record.proofs.Persisting.{log_on_the_way_law}
use Rattle.redo_record.proofs.Reproducing.{reproducing_law}
use Rattle.redo_record.proofs.SettledRecords.{settled_records_law}
use Rattle.redo_record.proofs.HeldLog.{settled_mark_is, stands_in}
use Rattle.core_events.specs.Setups.{Setup}
use Rattle.core_events.specs.Words.{State}
use Rattle.core_events.specs.Ghosts.{Ghost}
use Rattle.core_events.specs.Kept.{LayersKept}
use Rattle.core_events.proofs.EntriesAll.{value_is}
use Rattle.core_medium.specs.BoxBundles.{bundle_in}
use Rattle.core_medium.proofs.Gathered.{Gathered, gathered}
use Rattle.core_medium.specs.Stores.{Store, medium_of}
use Rattle.core_medium.specs.BackCalls.{BackCall, persisting, announcing, reproducing, reading, MayPersist, MayReproduce, MayCall, calls_of, waiting_as}
use Rattle.core_medium.specs.KeptStore.{StoreKept}
use Rattle.core_medium.specs.Machines.{Machine}
use Rattle.core_medium.specs.Images.{IsReproducing, IsOpenHead, IsValueAt, MayBeHead, HeadBundle, ImagesHave}
use Rattle.core_medium.proofs.Devices.{can, can_reproduce, values_there, still}
use Rattle.core_medium.proofs.Crashes.{none_made, front}
use Rattle.core_medium.proofs.Heads.{Found, found, one_head}

module _ (z : Setup) (g : Ghost) (c : State) (l : LayersKept z g c) (d : Store) (k : StoreKept z g c d) where
  abbrev m : Machine
  m = record { core = c; store = d }

  home_value : (i x : ℕ) → i < z.pages * PAGE → x ≡ slice_index d.log.home i → IsValueAt z m d.log.reproduced i x
  home_value i x lt same = same ∙ (k.stands.home i lt ∙ sym (value_is z g c l.entries d.log.reproduced i))

  in_home : (i : ℕ) → i < z.pages * PAGE → i < length d.log.home
  in_home i lt = let count = k.holds.rest.count in let same : d.log.sizes.pages * PAGE ≡ z.pages * PAGE = ap (λ (n : ℕ). n * PAGE) k.places.pages in omega arith

  -- a head in a ring at rest
  rest_head : (ring slot tag : ℕ) → ring < d.log.sizes.rings → slot < d.log.sizes.cells → MayHold (d.rest.word (cell_start d.log.sizes (cell_at ring slot))) tag → IsHeadOver d.log.reproduced tag
      → HasHead (number_of tag) slot (d.log.rings ring).logged
  rest_head ring slot tag below lt may over = (k.holds.fits ring below).heads slot tag lt may (subst (λ (n : ℕ). IsHeadOver n tag) (sym (settled_mark_is k.holds)) over)

  -- a bundle that is found is settled, and covers posted numbers
  abbrev found_bundle : (ring slot tag : ℕ) → Found d.log (medium_of d) ring (number_of tag) slot → HeadBundle z m ring slot tag
  found_bundle ring slot tag f = record {
    bundle = f.redo;
    posted = (k.stands.waits (waiting_as ring f.redo) f.waits).posted;
    which = inl (record { waits = f.waits; number_is = f.number_is; held = f.held });
  }

  -- what is settled at rest, where settled words of cells stay
  module _ (stay : (r : RedoBundle) (cell : Cell) → IsCell d.log.sizes cell → HoldSettled d.log.sizes cell r d.rest → HoldSettled d.log.sizes cell r (medium_of d)) where
    found_still : (ring slot tag : ℕ) → ring < d.log.sizes.rings → slot < d.log.sizes.cells → IsHeadOver d.log.reproduced tag → HasHead (number_of tag) slot (d.log.rings ring).logged
        → Found d.log (medium_of d) ring (number_of tag) slot
    found_still ring slot tag below lt over has =
        let intact : All (λ n. d.log.reproduced < n.last → IsIntact d.log.sizes ring d.rest n) (d.log.rings ring).logged
        = subst (λ (x : ℕ). All (λ n. x < n.last → IsIntact d.log.sizes ring d.rest n) (d.log.rings ring).logged) (settled_mark_is k.holds) (k.holds.fits ring below).records in
        let f = found d.log d.rest ring (number_of tag) slot (k.holds.logged ring below) intact over.over has in
        record { redo = f.redo; waits = f.waits; number_is = f.number_is; held = stay f.redo (cell_at ring slot) (record { ring_is = below; slot_is = lt }) f.held; has = f.has }

    settled_still : (w : Waiting) → Contains d.log.waiting w → (slot : ℕ) × (slot < d.log.sizes.cells) × HoldSettled d.log.sizes (cell_at w.ring slot) w.redo (medium_of d)
    settled_still w there = let s = stands_in k.holds w there in (s.slot, s.cell.slot_is, stay w.redo (cell_at w.ring s.slot) s.cell s.held)

  -- ---- where words and cells are as at rest
  module _ (same : (i : ℕ) → (medium_of d).word i ≡ d.rest.word i) where
    moved : (r : RedoBundle) (cell : Cell) → IsCell d.log.sizes cell → HoldSettled d.log.sizes cell r d.rest → HoldSettled d.log.sizes cell r (medium_of d)
    moved r cell is held = settled_records_law.rest d.log.sizes cell r d.rest (medium_of d) is (λ slot j x lt small e. same (cell_start d.log.sizes (cell_at cell.ring slot) + j) ∙ e) held

    head_there : (ring slot tag : ℕ) → MayBeHead m ring slot tag → Found d.log (medium_of d) ring (number_of tag) slot
    head_there ring slot tag h =
        found_still moved ring slot tag h.ring_is h.slot_is h.over
        (rest_head ring slot tag h.ring_is h.slot_is (subst (λ w. MayHold w tag) (same (cell_start d.log.sizes (cell_at ring slot))) h.may) h.over)

    at_rest : ImagesHave z m
    at_rest = record {
      mark = λ x may. inl (may_still _ _ x (same MARK ∙ k.holds.rest.mark) may);
      homes = λ i x lt may. inl (home_value i x lt (may_still _ _ x (same (home_word d.log.sizes i) ∙ k.holds.rest.words i (in_home i lt)) may));
      heads = λ ring slot tag h. found_bundle ring slot tag (head_there ring slot tag h);
      apart = λ ring slot tag ring2 slot2 tag2 n one other cov cov2.
          one_head d.log d.rest (medium_of d) k.holds ring (number_of tag) slot ring2 (number_of tag2) slot2 n one.ring_is (head_there ring slot tag one) (head_there ring2 slot2 tag2 other) cov cov2;
      settled = settled_still moved;
    }

  -- ---- while bundles are reproduced
  module _ (rs : List RedoBundle) (ws : List Write) (n : ℕ) (may : MayReproduce d.log d.rest.told rs ws n) (made : 0 < length d.calls) (later : List Call) (whole : calls_of z c.records d.log.sizes d.next (reproducing rs ws n) ≡ d.calls ++ later) where
    going : Reproducing d.log ws n d.rest (medium_of d)
    going = front z g c l d k (Reproducing d.log ws n d.rest) (calls_of z c.records d.log.sizes d.next (reproducing rs ws n)) later whole (reproducing_law d.log rs ws n d.rest k.holds (can_reproduce z g c l d k rs ws n may)).0

    group : IsReproducing m ws n
    group = record { made = made; bundles = rs; may = may; later = later; whole = whole }

    stay : (r : RedoBundle) (cell : Cell) → IsCell d.log.sizes cell → HoldSettled d.log.sizes cell r d.rest → HoldSettled d.log.sizes cell r (medium_of d)
    stay r cell is held = settled_records_law.rest d.log.sizes cell r d.rest (medium_of d) is (λ slot j x lt small e. going.cells.stay cell.ring slot j x is.ring_is lt small e) held

    head_on : (ring slot tag : ℕ) → MayBeHead m ring slot tag → Found d.log (medium_of d) ring (number_of tag) slot
    head_on ring slot tag h =
        found_still stay ring slot tag h.ring_is h.slot_is h.over (rest_head ring slot tag h.ring_is h.slot_is (going.cells.tags ring slot tag h.ring_is h.slot_is h.may) h.over)

    under_reproduce : ImagesHave z m
    under_reproduce = record {
      mark = λ x may2. ⊎_elim (λ old. inl old) (λ new. inr (ws, subst (λ (y : ℕ). IsReproducing m ws y) (sym new.0) group, new.1)) (going.mark x may2);
      homes = λ i x lt may2. ⊎_elim
          (λ old. inl (home_value i x lt old))
          (λ new. inr (ws, n, group, new ∙ (values_there z g c l d k rs ws n may i lt ∙ sym (value_is z g c l.entries n i))))
          (going.words i x (in_home i lt) may2);
      heads = λ ring slot tag h. found_bundle ring slot tag (head_on ring slot tag h);
      apart = λ ring slot tag ring2 slot2 tag2 x one other cov cov2.
          one_head d.log d.rest (medium_of d) k.holds ring (number_of tag) slot ring2 (number_of tag2) slot2 x one.ring_is (head_on ring slot tag one) (head_on ring2 slot2 tag2 other) cov cov2;
      settled = settled_still stay;
    }

  -- ---- while a bundle is persisted
  module _ (t j : ℕ) (more : List (ℕ × ℕ)) (may : MayPersist z c.boxes c.records d.log t j more) (made : 0 < length d.calls) (later : List Call) (whole : calls_of z c.records d.log.sizes d.next (persisting t j more) ≡ d.calls ++ later) where
    abbrev b : RedoBundle
    b = bundle_in z c.records t j more

    abbrev head : Cell
    head = cell_at t (d.next t)

    ring_in : t < d.log.sizes.rings
    ring_in = (can z g c l d k t j more may).append.cell.ring_is

    can_append : CanAppend d.log.sizes (settled_mark d.rest) (d.log.rings t).logged head b
    can_append = subst (λ (n : ℕ). CanAppend d.log.sizes n (d.log.rings t).logged head b) (sym (settled_mark_is k.holds)) (can z g c l d k t j more may).append

    way : Appending d.log.sizes (d.log.rings t).logged head b d.rest (medium_of d)
    way = front z g c l d k (Appending d.log.sizes (d.log.rings t).logged head b d.rest) (calls_of z c.records d.log.sizes d.next (persisting t j more)) later whole
        (append_law d.log.sizes (d.log.rings t).logged (d.log.rings t).released head b d.rest (k.holds.fits t ring_in) can_append).0

    still_rests : RestsAt VERSION d.log.sizes d.log.reproduced d.log.home (medium_of d)
        × ((ring : ℕ) → ring < d.log.sizes.rings → ring ≢ t → FitsRing d.log.sizes ring (d.log.rings ring).logged (d.log.rings ring).released (medium_of d))
        × ((ring : ℕ) → ring < d.log.sizes.rings → All (λ n. d.log.reproduced < n.last → IsWaiting d.log.sizes d.log.waiting ring (medium_of d) n) (d.log.rings ring).logged)
    still_rests = log_on_the_way_law d.log head b d.rest (medium_of d) k.holds (can z g c l d k t j more may) way

    mark_now : settled_mark (medium_of d) ≡ d.log.reproduced
    mark_now = ap (λ w. w.settled) still_rests.0.mark

    -- the bundles of each ring stand whole in their cells
    intact : (ring : ℕ) → ring < d.log.sizes.rings → All (λ n. d.log.reproduced < n.last → IsIntact d.log.sizes ring (medium_of d) n) (d.log.rings ring).logged
    intact ring below = dite (ℕ_discrete ring t)
        (λ same. rw same (subst (λ (x : ℕ). All (λ n. x < n.last → IsIntact d.log.sizes t (medium_of d) n) (d.log.rings t).logged) (settled_mark_is k.holds) way.records))
        (λ other. subst (λ (x : ℕ). All (λ n. x < n.last → IsIntact d.log.sizes ring (medium_of d) n) (d.log.rings ring).logged) mark_now (still_rests.1 ring below other).records)

    known : (ring number slot : ℕ) → ring < d.log.sizes.rings → d.log.reproduced < number → HasHead number slot (d.log.rings ring).logged → Found d.log (medium_of d) ring number slot
    known ring number slot below over has = found d.log (medium_of d) ring number slot (still_rests.2 ring below) (intact ring below) over has

    -- the head of the new bundle
    record IsNew (ring slot tag : ℕ) : Type 0 where
      ring_is : t ≡ ring
      slot_is : slot ≡ d.next t
      tag_is : tag ≡ head_tag b.last
      body : IsBodySettled d.log.sizes head b (medium_of d)

    fact : (ring slot tag : ℕ) → MayBeHead m ring slot tag → Found d.log (medium_of d) ring (number_of tag) slot ⊎ IsNew ring slot tag
    fact ring slot tag h = dite (ℕ_discrete ring t)
        (λ same. ⊎_elim
        (λ has. inl (known ring (number_of tag) slot h.ring_is h.over.over (rw same has)))
        (λ new. inr (record { ring_is = sym same; slot_is = new.0; tag_is = new.1; body = new.2 }))
        (way.heads slot tag h.slot_is (subst (λ (r : ℕ). MayHold ((medium_of d).word (cell_start d.log.sizes (cell_at r slot))) tag) same h.may) (subst (λ (n : ℕ). IsHeadOver n tag) (sym (settled_mark_is k.holds)) h.over)))
        (λ other. inl (known ring (number_of tag) slot h.ring_is h.over.over ((still_rests.1 ring h.ring_is other).heads slot tag h.slot_is h.may (subst (λ (n : ℕ). IsHeadOver n tag) (sym mark_now) h.over))))

    gathered_in : Gathered g.claims.hist c.boxes d.log b
    gathered_in = gathered z g c l d.log t j more may.gather

    abbrev bundle_at : (ring slot tag : ℕ) → Found d.log (medium_of d) ring (number_of tag) slot ⊎ IsNew ring slot tag → HeadBundle z m ring slot tag
    bundle_at ring slot tag (inl f) = found_bundle ring slot tag f
    bundle_at ring slot tag (inr new) = record {
      bundle = b;
      posted = λ n cov. inl (gathered_in.in_box n cov);
      which = inr (subst (λ (r : ℕ). IsOpenHead z m (cell_at r slot) tag b) new.ring_is (record {
        place = j;
        more = more;
        persisting = record { made = made; may = may; later = later; whole = whole };
        bundle_is = refl;
        slot_is = new.slot_is;
        tag_is = new.tag_is;
        body = subst (λ (n : ℕ). IsBodySettled d.log.sizes (cell_at t n) b (medium_of d)) (sym new.slot_is) new.body;
      }));
    }

    apart_by : (ring slot tag ring2 slot2 tag2 n : ℕ) → ring < d.log.sizes.rings → (one : Found d.log (medium_of d) ring (number_of tag) slot ⊎ IsNew ring slot tag) (other : Found d.log (medium_of d) ring2 (number_of tag2) slot2 ⊎ IsNew ring2 slot2 tag2)
        → Covers (bundle_at ring slot tag one).bundle n → Covers (bundle_at ring2 slot2 tag2 other).bundle n → cell_at ring slot ≡ cell_at ring2 slot2
    apart_by ring slot tag ring2 slot2 tag2 n below (inl f) (inl f2) cov cov2 = one_head d.log d.rest (medium_of d) k.holds ring (number_of tag) slot ring2 (number_of tag2) slot2 n below f f2 cov cov2
    apart_by ring slot tag ring2 slot2 tag2 n below (inl f) (inr new) cov cov2 = absurd (gathered_in.absent n cov2 (inr (waiting_as ring f.redo, f.waits, cov)))
    apart_by ring slot tag ring2 slot2 tag2 n below (inr new) (inl f2) cov cov2 = absurd (gathered_in.absent n cov (inr (waiting_as ring2 f2.redo, f2.waits, cov2)))
    apart_by ring slot tag ring2 slot2 tag2 n below (inr new) (inr new2) cov cov2 =
        ap (λ (r : ℕ). cell_at r slot) (sym new.ring_is ∙ new2.ring_is) ∙ ap (λ (s : ℕ). cell_at ring2 s) (new.slot_is ∙ sym new2.slot_is)

    home_still : (i x : ℕ) → i < z.pages * PAGE → MayHold ((medium_of d).word (home_word d.log.sizes i)) x → IsValueAt z m d.log.reproduced i x
    home_still i x lt may2 = home_value i x lt (may_still _ _ x (still_rests.0.words i (in_home i lt)) may2)

    under_persist : ImagesHave z m
    under_persist = record {
      mark = λ x may2. inl (may_still _ _ x still_rests.0.mark may2);
      homes = λ i x lt may2. inl (home_still i x lt may2);
      heads = λ ring slot tag h. bundle_at ring slot tag (fact ring slot tag h);
      apart = λ ring slot tag ring2 slot2 tag2 n one other cov cov2. apart_by ring slot tag ring2 slot2 tag2 n one.ring_is (fact ring slot tag one) (fact ring2 slot2 tag2 other) cov cov2;
      settled = λ w there.
          let s = stands_in k.holds w there in let over = (k.holds.waits w there).over in
          let f = known w.ring w.redo.last s.slot s.cell.ring_is (omega arith) s.has in
          let numbers = f.number_is in
          let same = k.holds.distinct (waiting_as w.ring f.redo) w w.redo.last f.waits there (record { low = omega arith; high = omega arith }) (record { low = omega arith; high = omega arith }) in
          (s.slot, s.cell.slot_is, subst (λ (y : RedoBundle). HoldSettled d.log.sizes (cell_at w.ring s.slot) y (medium_of d)) (ap (λ (y : Waiting). y.redo) same) f.held);
    }

  nothing_made : (calls : List Call) (call : Call) (later : List Call) → length (calls ++ call ∷ later) ≡ 1 → calls ≡ []
  nothing_made [] call later e = refl
  nothing_made (x ∷ xs) call later e = absurd (let size = length-append xs (call ∷ later) in omega arith)

  no_call : d.calls ≡ [] → ImagesHave z m
  no_call none = at_rest (λ i. ap (λ (cs : List Call). (after_all cs d.rest).word i) none)

  pub images_have : ImagesHave z m
  images_have = ⊎_elim no_call (λ u. dite (dec_lt 0 (length d.calls)) (λ made. by u.back u.call u.later made u.may u.whole) (λ none. no_call (none_made d.calls none))) k.under
    where
      by : (b : BackCall) (call : Call) (later : List Call) → 0 < length d.calls → MayCall z c.boxes c.records d.log d.rest.told b → calls_of z c.records d.log.sizes d.next b ≡ d.calls ++ call ∷ later → ImagesHave z m
      by (persisting t j more) call later made may whole = under_persist t j more may made (call ∷ later) whole
      by (announcing n) call later made may whole = no_call (nothing_made d.calls call later (ap length (sym whole)))
      by (reproducing rs ws n) call later made may whole = under_reproduce rs ws n may made (call ∷ later) whole
      by (reading p) call later made may whole = at_rest (λ i. ap (λ (q : MediumState). q.word i) (still z g c l d k p may (call ∷ later) whole))
