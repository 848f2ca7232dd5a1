-- The law of the calls that make an image: behind them the medium rests at the new image, and from the moment that 0 is told
-- on each image recovers to 0 and the home.
use Rattle.std.proofs.Common.{◌≡◌, ℕ, Bool, zero, suc, ◌+◌, ◌*◌, ◌-◌, ◌/◌, ◌^◌, ◌<◌, ◌≤◌, List, [], ◌∷◌, ◌++◌, length, drop, append_assoc, refl, sym, ◌∙◌, ap, arith, inl, inr, subst, ne_eqb}
use Rattle.std.proofs.lemmas.List.{length-append}
use Rattle.std.proofs.lemmas.List.Elements.{All-nil}
use Rattle.std.specs.Prelude.{slice_index}
use Rattle.dude_base.specs.declared.limits.TheConstants.{VERSION, MAGIC}
use Rattle.dude_base.specs.declared.sizes.Sizes.{Sizes}
use Rattle.dude_base.specs.Sizes.{IsAccepted}
use Rattle.dude_base.specs.Image.{Cell, cell_at, cell_start, header_words, home_word, image_words}
use Rattle.pmem_trait.specs.declared.call.Call.{Call}
use Rattle.pmem_trait.specs.declared.call.Call.TheVariants.{Tell}
use Rattle.pmem_trait.specs.Words.{newest, value_of, State, IsIn, IsSettled, IsImage, settled_at, after, after_all, EveryImage, AfterEachCall, end, more}
use Rattle.pmem_trait.specs.Sights.{Sight, CallsMade}
use Rattle.pmem_trait.specs.Groups.{group_calls, values_put, final}
use Rattle.pmem_trait.proofs.GroupLaw.{group_law, group_told}
use Rattle.pmem_trait.proofs.GroupWords.{group_flushed}
use Rattle.pmem_trait.proofs.GroupLists.{words_outside, words_inside}
use Rattle.pmem_trait.proofs.Images.{may_still}
use Rattle.pmem_trait.proofs.Runs.{making}
use Rattle.pmem_trait.proofs.Laws.{after_each_then, after_all_then}
use Rattle.redo_record.specs.Tags.{IsHeadOver}
use Rattle.redo_record.specs.Images.{sizes_of, tag_of, IsNewHead}
use Rattle.redo_record.specs.Recovery.{HasRecord, Recovers}
use Rattle.redo_record.specs.Rest.{RestsAt}
use Rattle.redo_record.specs.BackLaws.{HasNoHeads}
use Rattle.redo_record.proofs.HeldLog.{in_cells, newest_version}
use Rattle.redo_record.proofs.Recovered.{recovery_law, images_at_rest_law}
use Rattle.dude_recover.specs.FormatCalls.{empty_cells, content_writes, content_lines, header_writes, format_calls}
use Rattle.dude_recover.proofs.Writes.{Within, left, stays_settled, IsIn-range, within-enumerate, length-empty_cells, cell_value, home_value}

module _ (s : Sizes) (home : List ℕ) where
  length-contents : length (empty_cells s ++ home) ≡ s.rings * s.cells * 8 + length home
  length-contents = length-append (empty_cells s) home ∙ ap (λ (n : ℕ). n + length home) (length-empty_cells s)

  -- the medium behind each group
  abbrev pub cleared : State → State
  cleared p = after_all (group_calls ((0, 0) ∷ []) (0 ∷ [])) p

  abbrev pub filled : State → State
  filled p = after_all (group_calls (content_writes s home) (content_lines s)) (cleared p)

  abbrev pub headed : State → State
  headed p = after_all (group_calls (header_writes s) (0 ∷ [])) (filled p)

  abbrev pub marked : State → State
  marked p = after_all (group_calls ((0, MAGIC) ∷ []) (0 ∷ [])) (headed p)

  -- the groups tell nothing
  cleared_told : (p : State) → (cleared p).told ≡ p.told
  cleared_told p = group_told ((0, 0) ∷ []) (0 ∷ []) p

  filled_told : (p : State) → (filled p).told ≡ p.told
  filled_told p = group_told (content_writes s home) (content_lines s) (cleared p) ∙ cleared_told p

  headed_told : (p : State) → (headed p).told ≡ p.told
  headed_told p = group_told (header_writes s) (0 ∷ []) (filled p) ∙ filled_told p

  pub marked_told : (p : State) → (marked p).told ≡ p.told
  marked_told p = group_told ((0, MAGIC) ∷ []) (0 ∷ []) (headed p) ∙ headed_told p

  within_header : Within 1 8 (header_writes s)
  within_header = within-enumerate 1 (drop 1 (header_words VERSION s)) 1 8 (omega arith) (omega arith)

  -- the whole list, group by group
  regroup : (a b c d e : List Call) → a ++ b ++ c ++ d ++ e ≡ a ++ (b ++ (c ++ (d ++ e)))
  regroup a b c d e = simp append_assoc

  calls_are : format_calls s home ≡ group_calls ((0, 0) ∷ []) (0 ∷ []) ++ (group_calls (content_writes s home) (content_lines s)
      ++ (group_calls (header_writes s) (0 ∷ []) ++ (group_calls ((0, MAGIC) ∷ []) (0 ∷ []) ++ Tell 0 ∷ [])))
  unfolding format_calls
  calls_are = regroup (group_calls ((0, 0) ∷ []) (0 ∷ [])) (group_calls (content_writes s home) (content_lines s)) (group_calls (header_writes s) (0 ∷ []))
      (group_calls ((0, MAGIC) ∷ []) (0 ∷ [])) (Tell 0 ∷ [])

  -- who makes the groups one after another makes the list
  pub calls_made : {ok : Bool} {a b : Sight} → CallsMade (group_calls ((0, 0) ∷ []) (0 ∷ []) ++ (group_calls (content_writes s home) (content_lines s)
      ++ (group_calls (header_writes s) (0 ∷ []) ++ (group_calls ((0, MAGIC) ∷ []) (0 ∷ []) ++ Tell 0 ∷ [])))) ok a b → CallsMade (format_calls s home) ok a b
  calls_made {ok} {a} {b} made = subst (λ (cs : List Call). CallsMade cs ok a b) (sym calls_are) made

  pub format_is : (p : State) → after_all (format_calls s home) p ≡ after (Tell 0) (marked p)
  format_is p =
      ap (λ (cs : List Call). after_all cs p) calls_are
      ∙ (after_all_then (group_calls ((0, 0) ∷ []) (0 ∷ [])) _ p
      ∙ (after_all_then (group_calls (content_writes s home) (content_lines s)) _ (cleared p)
      ∙ (after_all_then (group_calls (header_writes s) (0 ∷ [])) _ (filled p)
      ∙ after_all_then (group_calls ((0, MAGIC) ∷ []) (0 ∷ [])) (Tell 0 ∷ []) (headed p))))

  module _ (whole : length home ≡ s.pages * 64) where
    within_contents : Within 8 (image_words s) (content_writes s home)
    within_contents = (
      omega arith,
      omega arith,
      within-enumerate 16 (empty_cells s ++ home) 8 (image_words s) (omega arith) (omega (arith, length-contents)),
    )

    in_lines : (k : ℕ) → 8 ≤ k → k < image_words s → IsIn (k / 8) (content_lines s)
    in_lines k low high = IsIn-range 1 (image_words s / 8 - 1) (k / 8) (omega arith) (omega arith)

    -- a word behind the header
    content_word : (p : State) (j : ℕ) → j < s.rings * s.cells * 8 + length home → (filled p).word (16 + j) ≡ settled_at (slice_index (empty_cells s ++ home) j)
    content_word p j below =
        group_flushed (content_writes s home) (content_lines s) (cleared p) (16 + j) (in_lines (16 + j) (omega arith) (omega arith))
        ∙ ap (λ (l : List ℕ). settled_at (newest (value_of ((cleared p).word (16 + j))) l)) put
      where
        put : values_put (content_writes s home) (16 + j) ≡ slice_index (empty_cells s ++ home) j ∷ []
        put = rw (ne_eqb (16 + j) 8 (λ e. omega arith)) (words_inside 16 (empty_cells s ++ home) j (16 + j) refl (omega (arith, length-contents)))

    mark_word : (p : State) → (filled p).word 8 ≡ settled_at 0
    mark_word p =
        let put : values_put (content_writes s home) 8 ≡ 0 ∷ [] = ap (λ (l : List ℕ). 0 ∷ l) (words_outside 16 (empty_cells s ++ home) 8 (λ j lt e. omega arith)) in
        group_flushed (content_writes s home) (content_lines s) (cleared p) 8 (in_lines 8 (omega arith) (omega arith))
        ∙ ap (λ (l : List ℕ). settled_at (newest (value_of ((cleared p).word 8)) l)) put

    -- what the last groups leave
    last : (p : State) (k x : ℕ) → 1 ≤ k → (headed p).word k ≡ settled_at x → (marked p).word k ≡ settled_at x
    last p k x from is = left 0 1 (headed p) ((0, MAGIC) ∷ []) (0 ∷ []) (omega arith, omega arith, tt) k x (inr from) is

    behind : (p : State) (k x : ℕ) → 8 ≤ k → (filled p).word k ≡ settled_at x → (marked p).word k ≡ settled_at x
    behind p k x from is = last p k x (omega arith) (left 1 8 (filled p) (header_writes s) (0 ∷ []) within_header k x (inr from) is)

    header : (p : State) (k : ℕ) → k < 8 → (marked p).word k ≡ settled_at (slice_index (header_words VERSION s) k)
    header p zero below = group_flushed ((0, MAGIC) ∷ []) (0 ∷ []) (headed p) 0 (inl refl)
    header p (suc k) below = last p (suc k) _ (omega arith) (by k (omega arith))
      where
        put : (k : ℕ) → 1 ≤ k → k < 8 → (headed p).word k ≡ settled_at (final (header_writes s) k (value_of ((filled p).word k)))
        put k from below = group_flushed (header_writes s) (0 ∷ []) (filled p) k (inl (omega arith))

        by : (k : ℕ) → k < 7 → (headed p).word (suc k) ≡ settled_at (slice_index (header_words VERSION s) (suc k))
        by zero below = put 1 (omega arith) (omega arith)
        by (suc zero) below = put 2 (omega arith) (omega arith)
        by (suc (suc zero)) below = put 3 (omega arith) (omega arith)
        by (suc (suc (suc zero))) below = put 4 (omega arith) (omega arith)
        by (suc (suc (suc (suc zero)))) below = put 5 (omega arith) (omega arith)
        by (suc (suc (suc (suc (suc zero))))) below = put 6 (omega arith) (omega arith)
        by (suc (suc (suc (suc (suc (suc zero)))))) below = put 7 (omega arith) (omega arith)
        by (suc (suc (suc (suc (suc (suc (suc k))))))) below = absurd (omega arith)

    -- The medium rests at the image, whatever it was before.
    pub marked_rests : (p : State) → RestsAt VERSION s 0 home (marked p)
    marked_rests p = record {
      header = header p;
      mark = behind p 8 0 (omega arith) (mark_word p);
      count = whole;
      words = λ k below.
          let at : 16 + (s.rings * s.cells * 8 + k) ≡ home_word s k = omega arith in
          behind p (home_word s k) _ (omega arith)
          (subst (λ (i : ℕ). (filled p).word i ≡ settled_at (slice_index (empty_cells s ++ home) (s.rings * s.cells * 8 + k))) at (content_word p (s.rings * s.cells * 8 + k) (omega arith))
          ∙ ap settled_at (home_value s home k));
    }

    -- and each cell begins with 0
    cell_word : (p : State) (ring slot : ℕ) → ring < s.rings → slot < s.cells → (marked p).word (cell_start s (cell_at ring slot)) ≡ settled_at 0
    cell_word p ring slot below lt =
        let k = cell_start s (cell_at ring slot) in
        let inside = in_cells s ring slot 0 below lt (omega arith) in
        let at : 16 + (k - 16) ≡ k = omega arith in
        behind p k 0 (omega arith)
        (subst (λ (i : ℕ). (filled p).word i ≡ settled_at 0) at (content_word p (k - 16) (omega arith) ∙ ap settled_at (cell_value s home (k - 16) (omega arith))))

    no_head : (above tag : ℕ) → tag ≡ 0 → IsHeadOver above tag → ⊥
    no_head above tag is over =
        let kind = over.kind in
        let none : tag / 2 ^ 62 ≡ 0 = rw is refl in
        absurd (omega arith)

    pub marked_heads : (p : State) → HasNoHeads s 0 (marked p)
    marked_heads p ring slot tag below lt may over = no_head 0 tag (may_still _ 0 tag (cell_word p ring slot below lt) may) over

    -- what each image recovers to then
    pub record RecoversNew (image : List ℕ) : Type 0 where
      pub recovered : Recovers image 0 home
      pub same_sizes : sizes_of image ≡ s

    marked_images : (p : State) (len : ℕ) (image : List ℕ) → IsAccepted s → image_words s ≤ len → IsImage len (marked p) image → RecoversNew image
    marked_images p len image accepted long is =
        let both = recovery_law VERSION s 0 home image 0 [] accepted (newest_version s) (omega arith) (images_at_rest_law VERSION s 0 home (marked p) len image long (marked_rests p) is)
        (record { complete = λ c new. absurd (none c new); single = λ c d n new other covered too. absurd (none c new) })
        (All-nil (HasRecord s 0 image)) refl (λ c new same. none c new) in
        record { same_sizes = both.0; recovered = both.1 }
      where
        none : (c : Cell) → IsNewHead s 0 image c → ⊥
        none c new =
            let is_cell = new.cell in
            let inside = in_cells s c.ring c.slot 0 is_cell.ring_is is_cell.slot_is (omega arith) in
            no_head 0 (tag_of s image c) (may_still _ 0 _ (cell_word p c.ring c.slot is_cell.ring_is is_cell.slot_is) (is.each (cell_start s c) (omega arith))) new.new

    -- a settled medium is settled again
    pub marked_settled : (p : State) (len : ℕ) → IsSettled len p → IsSettled len (marked p)
    marked_settled p len settled =
        stays_settled 0 1 len (headed p) ((0, MAGIC) ∷ []) (0 ∷ []) (omega arith, omega arith, tt) (λ k low high. inl (omega arith))
        (stays_settled 1 8 len (filled p) (header_writes s) (0 ∷ []) within_header (λ k low high. inl (omega arith))
        (stays_settled 8 (image_words s) len (cleared p) (content_writes s home) (content_lines s) within_contents in_lines
        (stays_settled 0 1 len p ((0, 0) ∷ []) (0 ∷ []) (omega arith, omega arith, tt) (λ k low high. inl (omega arith)) settled)))

    -- What holds of the images while nothing more is told, and of those of the new image once 0 is told, holds along the list.
    pub format_along : (P : List ℕ → List ℕ → Type 0) (p : State) (len : ℕ) → IsAccepted s → image_words s ≤ len → ((image : List ℕ) → P p.told image)
        → ((image : List ℕ) → RecoversNew image → P (p.told ++ 0 ∷ []) image) → AfterEachCall (EveryImage len P) p (format_calls s home)
    format_along P p len accepted long before once = subst (λ (cs : List Call). AfterEachCall (EveryImage len P) p cs) (sym calls_are)
        (after_each_then (group_law ((0, 0) ∷ []) (λ image mix. before image) (0 ∷ []))
        (after_each_then (group_law (content_writes s home) (λ image mix. untold (cleared_told p) image) (content_lines s))
        (after_each_then (group_law (header_writes s) (λ image mix. untold (filled_told p) image) (0 ∷ []))
        (after_each_then (group_law ((0, MAGIC) ∷ []) (λ image mix. untold (headed_told p) image) (0 ∷ []))
        (more (record { each = λ image is. untold (marked_told p) image })
        (end (record {
          each = λ image is.
              subst (λ (told : List ℕ). P (told ++ 0 ∷ []) image) (sym (marked_told p))
              (once image (marked_images p len image accepted long (record { size = is.size; each = is.each })));
        })))))))
      where
        untold : {told : List ℕ} → told ≡ p.told → (image : List ℕ) → P told image
        untold same image = subst (λ (told : List ℕ). P told image) (sym same) (before image)

pub ruleset writing = (making, calls_made)
