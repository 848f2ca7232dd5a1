-- The header of an image, word by word.
use Rattle.std.proofs.Common.{◌≡◌, ℕ, ◌<◌, ◌≤◌, List, length, take, slice_index, Option, Some, None, sym, ap, ◌∙◌, subst, arith}
use Rattle.std.proofs.lemmas.List.{get_or-take, length-take}
use Rattle.std.proofs.lemmas.Grind.{same_number_lists}
use Rattle.dude_base.specs.declared.sizes.Sizes.{Sizes}
use Rattle.dude_base.specs.Sizes.{IsAccepted}
use Rattle.dude_base.specs.Image.{header_words, image_words}
use Rattle.redo_record.specs.Images.{sizes_of, version_of}
use Rattle.redo_record.specs.Recovery.{IsVersion, IsFormatted}
use Rattle.image_recovery.specs.Header.{NamesSizes, AreSizes}
use Rattle.image_recovery.specs.Replays.{HasSizes}

module _ (len : ℕ) (header content : List ℕ) (short : length header ≡ 8) (size : length content ≡ len) (long : 16 ≤ len) (each : (i : ℕ) → i < 8 → slice_index header i ≡ slice_index content i) where
  front : take 8 content ≡ header
  front = same_number_lists (take 8 content) header (simp length-take (omega arith)) (λ i below. let small : i < 8 = omega (arith, length-take 8 content) in get_or-take 8 content i 0 small ∙ sym (each i small))

  same : sizes_of header ≡ sizes_of content
  same =
      let a = each 2 (omega arith) in
      let b = each 3 (omega arith) in
      let c = each 4 (omega arith) in
      let d = each 5 (omega arith) in
      let e = each 6 (omega arith) in
      let f = each 7 (omega arith) in
      cc

  named : version_of header ≡ version_of content
  named = each 1 (omega arith)

  formatted : NamesSizes len header → IsFormatted content
  formatted names = record {
    long = omega arith;
    header = front ∙ (names.same ∙ (ap (λ (v : ℕ). header_words v (sizes_of header)) named ∙ ap (header_words (version_of content)) same));
    version = subst (λ (v : ℕ). IsVersion v (sizes_of content)) named (subst (IsVersion (version_of header)) same names.version);
    sizes = subst IsAccepted same names.sizes;
    whole = let P : Sizes → Type 0 = λ s. image_words s ≤ length content in subst P same (let whole = names.whole in omega arith);
  }

  names : IsFormatted content → NamesSizes len header
  names is = record {
    same = sym front ∙ (is.header ∙ (ap (λ (v : ℕ). header_words v (sizes_of content)) (sym named) ∙ ap (header_words (version_of header)) (sym same)));
    version = subst (λ (v : ℕ). IsVersion v (sizes_of header)) (sym named) (subst (IsVersion (version_of content)) (sym same) is.version);
    sizes = subst IsAccepted (sym same) is.sizes;
    whole = let P : Sizes → Type 0 = λ s. image_words s ≤ len in subst P (sym same) (let whole = is.whole in omega arith);
  }

  pub has_sizes : (found : Option Sizes) → AreSizes len header found → HasSizes found content
  has_sizes None none = λ is. none (names is)
  has_sizes (Some s) both = (formatted both.0, sym same ∙ sym both.1)
