-- What the calls of a new image leave, where its home stands for the population.
use Rattle.std.proofs.Common.{ℕ, ◌≤◌, List, [], ◌∷◌, ◌++◌, length, refl, sym, ap, arith, inl, inr, subst}
use Rattle.std.proofs.Math.Seq.{drop-append_seam}
use Rattle.std.proofs.lemmas.Result.{IfOk-from_err}
use Rattle.dude_base.specs.declared.sizes.Sizes.{Sizes}
use Rattle.dude_base.specs.Sizes.{IsAccepted}
use Rattle.dude_base.specs.Image.{image_words}
use Rattle.pmem_trait.specs.Words.{State, IsIn, IsSettled, AtLeast, after_all, EveryImage, AfterEachCall}
use Rattle.tatp_model.specs.Population.{population}
use Rattle.tatp_layout.specs.StandsFor.{StandsFor}
use Rattle.dude_recover.specs.FormatCalls.{format_calls}
use Rattle.dude_recover.specs.NewImages.{RecoversOnceTold, IsNewImage}
use Rattle.dude_recover.proofs.FormatLaw.{marked_told, marked_rests, marked_heads, marked_settled, format_is, format_along}

-- nothing over 0 was told behind the numbers told before
only_zero : (before : List ℕ) → AtLeast (length before) (before ++ 0 ∷ []) 0
only_zero before x is = by (subst (λ (told : List ℕ). IsIn x told) (drop-append_seam before (0 ∷ [])) is)
  where
    by : IsIn x (0 ∷ []) → x ≤ 0
    by (inl same) = omega arith
    by (inr none) = absurd none

module _ {s : Sizes} {home : List ℕ} (stands : StandsFor s home (population s.subscribers)) where
  pub new_images : (p : State) (len : ℕ) → IsAccepted s → image_words s ≤ len → AfterEachCall (EveryImage len (RecoversOnceTold s p.told)) p (format_calls s home)
  new_images p len accepted long = format_along s home stands.size (RecoversOnceTold s p.told) p len accepted long
      (λ image. inl refl)
      (λ image new. inr (refl, record { array = home; recovered = new.recovered; same_sizes = new.same_sizes; stands = stands }))

  pub new_image : (p : State) → IsNewImage s home p (after_all (format_calls s home) p)
  new_image p =
      let rests = marked_rests s home stands.size p in
      let told = marked_told s home p in
      let Q : State → Type 0 = λ q. IsNewImage s home p q in
      subst Q (sym (format_is s home p)) (record {
        stands = stands;
        told = ap (λ (told : List ℕ). told ++ 0 ∷ []) told;
        idle = record {
          rest = record { header = rests.header; mark = rests.mark; count = rests.count; words = rests.words };
          heads = marked_heads s home stands.size p;
          told = subst (λ (told : List ℕ). AtLeast (length p.told) (told ++ 0 ∷ []) 0) (sym told) (only_zero p.told);
        };
      })

  pub new_settled : (p : State) (len : ℕ) → IsSettled len p → IsSettled len (after_all (format_calls s home) p)
  new_settled p len settled = subst (λ (q : State). IsSettled len q) (sym (format_is s home p)) (marked_settled s home stands.size p len settled)

-- what is said of an answer that there isn't
pub ruleset refusing = (IfOk-from_err)
