-- Pages of writes are pinned, each once.
use Rattle.std.proofs.Common.{◌≡◌, ◌≢◌, ℕ, ◌+◌, ◌*◌, ◌<◌, ◌≤◌, List, [], ◌∷◌, ◌++◌, true, length, get_or, refl, sym, ap, ◌∙◌, subst, ⊎_elim, arith}
use Rattle.std.specs.Prelude.{Some, None, is_some}
use Rattle.std.specs.List.{All, slice_get}
use Rattle.std.proofs.lemmas.Option.{get_or_from_slice_get}
use Rattle.std.proofs.lemmas.List.Elements.{All-push}
use Rattle.std.proofs.lemmas.List.Quantifiers.{all_pairs_push}
use Rattle.std.proofs.lemmas.List.{length-append}
use mathlib.Core.Logic.{dite}
use native.Mathlib.Decide.{ℕ_discrete}
use Rattle.dude_base.specs.declared.limits.TheConstants.{PAGE, MAX_WRITES}
use Rattle.dude_base.specs.declared.write.Write.{Write}
use Rattle.dude_base.specs.Writes.{written, IsWriteList}
use Rattle.dude_base.proofs.WriteLists.{written_at, absent_written}
use Rattle.core_events.specs.Setups.{Setup, page_of}
use Rattle.core_events.specs.Keyed.{find}
use Rattle.core_events.specs.Views.{View}
use Rattle.stm_transactions.specs.Pages.{ArePaged, IsPageOf, IsPageStop, IsWrittenPage}
use Rattle.stm_transactions.specs.Pairs.{Noted, pairs_of}
use Rattle.stm_transactions.specs.Pins.{IsNotPinned, IsPinning, Paged}
use Rattle.stm_transactions.specs.Seats.{HasRisen}
use Rattle.stm_transactions.proofs.Pairs.{find_pairs, pairs_push, written_more}
use Rattle.stm_transactions.proofs.Pins.{paged_on}
use Rattle.word_space.specs.declared.stop.Stop.{Stop}

module _ (page : ℕ) (frames : List Write) (v : View) (r : IsPinning (pairs_of frames) v) where
  pub same_pins : Paged (pairs_of frames) v v
  same_pins = record { rest = refl; pins_are = r.pins_are; counted = omega arith }

  pub pins_here : IsPinning v.paging.pins v
  pins_here = record { its = r.its; is_open = r.is_open; no_number = r.no_number; no_turn = r.no_turn; pins_are = refl }

  pub not_among : IsWriteList frames → written frames page ≡ None → find v.paging.pins page ≡ None
  not_among list none = ap (λ (l : List (ℕ × ℕ)). find l page) r.pins_are ∙ (find_pairs frames list.distinct page ∙ none)

  pub more_pins : (f : ℕ) (w : View) → Paged ((page, f) ∷ v.paging.pins) v w → Paged (pairs_of (frames ++ (record { at = page; value = f }) ∷ [])) v w
  more_pins f w p = record {
    rest = p.rest;
    pins_are = p.pins_are ∙ (ap (λ (l : List (ℕ × ℕ)). (page, f) ∷ l) r.pins_are ∙ sym (pairs_push frames (record { at = page; value = f })));
    counted = p.counted;
  }

-- ---- the pages of all writes
list_none : IsWriteList []
list_none = record { few = omega arith; distinct = λ i j d lt le. absurd (omega arith) }

list_noted : (i : ℕ) (ws new : List Write) → IsWriteList ws → length ws < MAX_WRITES → Noted i ws new → IsWriteList new
list_noted i ws new list room noted = ⊎_elim
    (λ same. subst IsWriteList (sym same) list)
    (λ more. let e = more.1.1 in let w : Write = record { at = i; value = more.1.0 } in rw e (record {
      few = omega (arith, length-append ws (w ∷ []));
      distinct = all_pairs_push (λ (a b : Write). a.at ≢ b.at) ws w list.distinct (absent_written ws i more.0);
    }))
    noted.more

-- the pages of the first k writes are pinned, and no others
pub record Pinning (k : ℕ) (ws frames : List Write) (v w : View) : Type 0 where
  pub paged : Paged (pairs_of frames) v w
  pub list : IsWriteList frames
  pub few : length frames ≤ k
  pub each : (j : ℕ) (d : Write) → j < k → is_some (written frames (page_of (get_or ws j d).at)) ≡ true
  pub from : All (IsWrittenPage ws) frames

pub pinning_none : (ws frames : List Write) (v : View) → frames ≡ [] → IsPinning [] v → Pinning 0 ws frames v v
pinning_none ws frames v none r = rw none (record {
  paged = record { rest = refl; pins_are = r.pins_are; counted = omega arith };
  list = list_none;
  few = omega arith;
  each = λ j d lt. absurd (omega arith);
  from = λ j d lt. absurd (omega arith);
})

module _ (z : Setup) (ws : List Write) (v : View) (distinct : IsWriteList ws) (inside : All (λ w. w.at < z.pages * PAGE) ws) where
  module _ (k : ℕ) (frames : List Write) (w : View) (p : Pinning k ws frames v w) (x : Write) (is : slice_get ws k ≡ Some x) (lt : k < length ws) where
    at_is : (d : Write) → get_or ws k d ≡ x
    at_is d = get_or_from_slice_get ws k x d is

    its_page : IsPageOf ws (page_of x.at)
    its_page = (x.at, x.value, written_at ws x.at k x distinct.distinct lt (ap (λ (y : Write). y.at) (at_is x)) ∙ ap (λ (y : Write). Some y.value) (at_is x), refl)

    pub page_there : page_of x.at < z.pages
    page_there = let i : x.at < z.pages * PAGE = subst (λ (y : Write). y.at < z.pages * PAGE) (at_is x) (inside k x lt) in omega arith

    pub room : length frames < MAX_WRITES
    room = let a = p.few in let b = distinct.few in omega arith

    pub pinning_more : (frames2 : List Write) (w2 : View) → Paged (pairs_of frames2) w w2 → Noted (page_of x.at) frames frames2 → Pinning (k + 1) ws frames2 v w2
    pinning_more frames2 w2 q noted = record {
      paged = paged_on (pairs_of frames) (pairs_of frames2) v w w2 p.paged q;
      list = list_noted (page_of x.at) frames frames2 p.list room noted;
      few = ⊎_elim (λ same. let a = p.few in let b = ap length same in omega arith) (λ more. let a = p.few in let b = ap length more.1.1 in omega (arith, length-append frames ((record { at = page_of x.at; value = more.1.0 }) ∷ []))) noted.more;
      each = λ j d b. dite (ℕ_discrete j k)
          (λ h. rw (h, at_is d) noted.there)
          (λ o. let old = p.each j d (omega arith) in ⊎_elim (λ same. rw same old) (λ more. rw more.1.1 (written_more frames (page_of x.at) more.1.0 (page_of (get_or ws j d).at) old)) noted.more);
      from = ⊎_elim (λ same. subst (λ (l : List Write). All (IsWrittenPage ws) l) (sym same) p.from)
          (λ more. subst (λ (l : List Write). All (IsWrittenPage ws) l) (sym more.1.1) (All-push (IsWrittenPage ws) frames (record { at = page_of x.at; value = more.1.0 }) p.from its_page)) noted.more;
    }

    pub pinning_stop : (stop : Stop) (w2 : View) → IsNotPinned z (page_of x.at) stop w2 × (HasRisen w.count w2.count) → IsPageStop z ws stop w2 × (HasRisen v.count w2.count)
    pinning_stop stop w2 why = ((page_of x.at, its_page, why.0), (let a = p.paged.counted in let b = why.1 in omega arith))

    pub pinning_kept : (w2 : View) → Paged (pairs_of frames) w w2 → Paged (pairs_of frames) v w2
    pinning_kept w2 q = paged_on (pairs_of frames) (pairs_of frames) v w w2 p.paged q

  pub pinning_end : (k : ℕ) (frames : List Write) (w : View) → Pinning k ws frames v w → length ws ≤ k → ArePaged ws frames × All (IsWrittenPage ws) frames
  pinning_end k frames w p le = ((λ j d lt. ap is_some (find_pairs frames p.list.distinct (page_of (get_or ws j d).at)) ∙ p.each j d (omega arith)), p.from)
