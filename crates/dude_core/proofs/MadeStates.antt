-- A step that was allowed, and made in parts.
use Rattle.std.proofs.Common.{◌≡◌, ℕ, ◌<◌, List, ◌∷◌, refl, sym, ap, subst, ◌∙◌}
use Rattle.std.specs.Prelude.{Option, slice_set, slice_index_or}
use mathlib.Core.Option.{some, some-injective}
use lib.ListN.{get_elem?}
use Rattle.dude_base.specs.Records.{RedoRecord}
use Rattle.core_events.specs.Setups.{Setup, box_of}
use Rattle.core_events.specs.Keyed.{or_else}
use Rattle.core_events.specs.Views.{View, Word, the_threads, the_clock, the_turn, the_durable, the_reproduced, the_lock, the_entry, the_touch, the_cell, the_box}
use Rattle.core_events.specs.Words.{State, found, put}
use Rattle.core_events.specs.Events.{Event, post, empty_box, name, word_after, view_after, next_box, thread_of}
use Rattle.core_events.specs.Conditions.{IsAllowed, record_of, no_record, records_after, HasThread}
use Rattle.core_events.specs.Partings.{Leads, event}
use Rattle.core_events.specs.Telling.{IsSeated, WordTold}
use Rattle.core_events.specs.Kept.{Kept}
use Rattle.core_events.proofs.Telling.{kept_seated, tells}
use Rattle.dude_core.specs.declared.deed.ReadDeed.{ReadDeed}
use Rattle.dude_core.specs.declared.deed.ReadDeed.TheVariants.{Number, Begin, Extend, Look, Load, Check, Finish}
use Rattle.dude_core.specs.declared.deed.WriteDeed.{WriteDeed}
use Rattle.dude_core.specs.declared.deed.WriteDeed.TheVariants.{Take, Draw, Decide, Store, Release, Restore}
use Rattle.dude_core.specs.declared.deed.PageDeed.{PageDeed}
use Rattle.dude_core.specs.declared.deed.PageDeed.TheVariants.{Entry, Pin, Unpin, Touch, LoadTouch, Evict, Fill, Show}
use Rattle.dude_core.specs.Named.{of_read, of_write, of_page}
use Rattle.dude_core.proofs.Places.{put_leaves}
use Rattle.dude_core.specs.StateSteps.{IsReady, IsMoved, moved}
use Rattle.dude_core.specs.BoxEvents.{IsPlain}

pub read_plain : (d : ReadDeed) → IsPlain (of_read d)
read_plain Number = record { records = λ z c v. refl; persisted = λ z c. refl }
read_plain Begin = record { records = λ z c v. refl; persisted = λ z c. refl }
read_plain Extend = record { records = λ z c v. refl; persisted = λ z c. refl }
read_plain (Look k) = record { records = λ z c v. refl; persisted = λ z c. refl }
read_plain (Load i) = record { records = λ z c v. refl; persisted = λ z c. refl }
read_plain (Check k) = record { records = λ z c v. refl; persisted = λ z c. refl }
read_plain (Finish a) = record { records = λ z c v. refl; persisted = λ z c. refl }

pub write_plain : (d : WriteDeed) → IsPlain (of_write d)
write_plain (Take k) = record { records = λ z c v. refl; persisted = λ z c. refl }
write_plain (Draw a ws) = record { records = λ z c v. refl; persisted = λ z c. refl }
write_plain Decide = record { records = λ z c v. refl; persisted = λ z c. refl }
write_plain (Store i) = record { records = λ z c v. refl; persisted = λ z c. refl }
write_plain (Release k) = record { records = λ z c v. refl; persisted = λ z c. refl }
write_plain (Restore k) = record { records = λ z c v. refl; persisted = λ z c. refl }

pub page_plain : (d : PageDeed) → IsPlain (of_page d)
page_plain (Entry p) = record { records = λ z c v. refl; persisted = λ z c. refl }
page_plain (Pin p) = record { records = λ z c v. refl; persisted = λ z c. refl }
page_plain (Unpin p) = record { records = λ z c v. refl; persisted = λ z c. refl }
page_plain (Touch p) = record { records = λ z c v. refl; persisted = λ z c. refl }
page_plain (LoadTouch p) = record { records = λ z c v. refl; persisted = λ z c. refl }
page_plain (Evict p) = record { records = λ z c v. refl; persisted = λ z c. refl }
page_plain (Fill w) = record { records = λ z c v. refl; persisted = λ z c. refl }
page_plain (Show p f) = record { records = λ z c v. refl; persisted = λ z c. refl }

pub ready_of : (z : Setup) (c : State) (who : ℕ) (e : Event) → Kept z c → (v : View) × IsAllowed z c who e v → IsReady z c who e
ready_of z c who e k a = record {
  view = a.0;
  is_there = a.1.is_there;
  seated = kept_seated z c k who a.0 a.1.is_there;
  may = a.1.may;
  told = (tells z e c who a.0 k a.1).word;
}

found_beside : (c : State) (w : Word) (ps : List RedoRecord) → found (record c { persisted = ps }) w ≡ found c w
found_beside c the_threads ps = refl
found_beside c the_clock ps = refl
found_beside c the_turn ps = refl
found_beside c the_durable ps = refl
found_beside c the_reproduced ps = refl
found_beside c (the_lock k) ps = refl
found_beside c (the_entry k) ps = refl
found_beside c (the_touch k) ps = refl
found_beside c (the_cell k) ps = refl
found_beside c (the_box k) ps = refl

pub ready_beside : (z : Setup) (c d : State) (who : ℕ) (e : Event) (ps : List RedoRecord) → d ≡ record c { persisted = ps } → IsReady z c who e → IsReady z d who e
ready_beside z c d who e ps is r = subst (λ (s : State). IsReady z s who e) (sym is) (record {
  view = r.view;
  is_there = r.is_there;
  seated = r.seated;
  may = r.may;
  told = subst (WordTold z e r.view) (sym (found_beside c (name z e r.view) ps)) r.told;
})

same_view : (c : State) (who : ℕ) (v w : View) → get_elem? c.views who ≡ some v → get_elem? c.views who ≡ some w → w ≡ v
same_view c who v w at also = some-injective w v (sym also ∙ at)

module _ (z : Setup) (c : State) (who : ℕ) (v : View) where
  -- an event that leaves the records
  pub led_plain : (e : Event) (d : State) → IsAllowed z c who e v → IsPlain e → IsMoved z c who e d → Leads z c (event who e) d
  led_plain e d a p m =
      let w = m.ready.view in let same : w ≡ v = same_view c who v w a.is_there m.ready.is_there in
      let n : ℕ = found c (name z e v) in let x : ℕ = word_after e v n in let vs : List View = slice_set c.views who (view_after z e v n) in (
        v,
        a,
        m.after ∙ (ap (λ (u : View). moved z c who u e) same ∙ (put_leaves c (name z e v) x vs
            ∙ (ap (λ (rs : List RedoRecord). record (put c (name z e v) x) { views = vs; records = rs; persisted = c.persisted }) (sym (p.records z c v))
            ∙ ap (λ (ps : List RedoRecord). record (put c (name z e v) x) { views = vs; records = records_after z e c v; persisted = ps }) (sym (p.persisted z c))))),
      )

  pub led_post : (d f : State) (at : ℕ) (r : RedoRecord) → IsAllowed z c who post v → IsMoved z c who post d → at ≡ next_box z v → r ≡ record_of v.tx.hand → f ≡ record d { records = slice_set d.records at r } → Leads z c (event who post) f
  led_post d f at r a m at_is r_is f_is =
      let w = m.ready.view in let same : w ≡ v = same_view c who v w a.is_there m.ready.is_there in
      let d_is : d ≡ moved z c who v post = m.after ∙ ap (λ (u : View). moved z c who u post) same in
      let M : State = moved z c who v post in (
        v,
        a,
        f_is ∙ (ap (λ (s : State). record s { records = slice_set s.records at r }) d_is
            ∙ (ap (λ (k : ℕ). record M { records = slice_set M.records k r }) at_is
            ∙ ap (λ (q : RedoRecord). record M { records = slice_set M.records (next_box z v) q }) r_is)),
      )

  pub led_empty : (t j : ℕ) (b d f : State) (at : ℕ) (r : RedoRecord) → IsAllowed z c who (empty_box t j) v → b ≡ record c { persisted = slice_index_or c.records at no_record ∷ c.persisted } → IsMoved z b who (empty_box t j) d
      → at ≡ box_of z t j → r ≡ no_record → f ≡ record d { records = slice_set d.records at r } → Leads z c (event who (empty_box t j)) f
  led_empty t j b d f at r a b_is m at_is r_is f_is =
      let e : Event = empty_box t j in
      let w = m.ready.view in
      let there : get_elem? c.views who ≡ some w = ap (λ (s : State). get_elem? s.views who) (sym b_is) ∙ m.ready.is_there in
      let same : w ≡ v = same_view c who v w a.is_there there in
      let B : ℕ → State = λ (k : ℕ). record c { persisted = slice_index_or c.records k no_record ∷ c.persisted } in
      let d_is : d ≡ moved z (B at) who v e = m.after ∙ (ap (λ (u : View). moved z b who u e) same ∙ ap (λ (s : State). moved z s who v e) b_is) in
      let F : State → ℕ → RedoRecord → State = λ (s : State) (k : ℕ) (q : RedoRecord). record s { records = slice_set s.records k q } in
      (v, a, f_is ∙ (ap (λ (s : State). F s at r) d_is ∙ (ap (λ (k : ℕ). F (moved z (B k) who v e) k r) at_is ∙ ap (F (moved z (B (box_of z t j)) who v e) (box_of z t j)) r_is)))

pub box_inside_of : (z : Setup) (v : View) → IsSeated z v → HasThread v → (thread_of v < z.threads) × (v.box.next < z.boxes)
box_inside_of z v s t = (subst (λ (o : Option ℕ). or_else o 0 < z.threads) (sym t.1) (s.thread t.0 t.1), s.next)

pub threaded_post : (z : Setup) (c : State) (who : ℕ) (v w : View) → get_elem? c.views who ≡ some v → get_elem? c.views who ≡ some w → HasThread v → HasThread w
threaded_post z c who v w at also t = subst HasThread (sym (same_view c who v w at also)) t
