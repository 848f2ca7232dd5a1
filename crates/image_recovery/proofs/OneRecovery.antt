-- Recovery gives one answer for each image.
use Rattle.std.proofs.Common.{◌≡◌, ℕ, List, refl, sym, ap, ◌∙◌, subst}
use Rattle.dude_base.specs.declared.sizes.Sizes.{Sizes}
use Rattle.tatp_model.specs.Database.{Database}
use Rattle.redo_record.specs.Images.{sizes_of}
use Rattle.redo_record.specs.Recovery.{IsFormatted, IsDamaged, Recovers}
use Rattle.redo_record.specs.Recovery as replays
use Rattle.redo_record.proofs.SingleReplay.{replay_law}
use Rattle.tatp_layout.specs.StandsFor.{StandsFor}
use Rattle.tatp_check.specs.Order.{IsNotDb}
use Rattle.tatp_check.proofs.OneDatabase.{one_database}
use Rattle.tatp_check.proofs.OneWord.{one_word}
use Rattle.image_recovery.specs.Recovered.{RecoversTo, IsNoDatabase, Unformatted, Damaged, NotDb, Recovered, LawOfOneRecovery}

module _ (image : List ℕ) where
  -- an image that was replayed was replayed to one number and one array
  pub same_replay : (n m : ℕ) (a b : List ℕ) → Recovers image n a → Recovers image m b → (n ≡ m) × (a ≡ b)
  same_replay n m a b one other =
      let same : replays.Recovered n a ≡ replays.Recovered m b = replay_law image (replays.Recovered n a) (replays.Recovered m b) one other in
      let numbers : n ≡ m = cc in
      let arrays : a ≡ b = cc in
      (numbers, arrays)

  -- and isn't damaged
  undamaged : (n line : ℕ) (a : List ℕ) → Recovers image n a → IsFormatted image × IsDamaged image line → ⊥
  undamaged n line a one damaged =
      let same : replays.Recovered n a ≡ replays.Damaged line = replay_law image (replays.Recovered n a) (replays.Damaged line) one damaged in
      cc

  same_line : (k l : ℕ) → IsFormatted image × IsDamaged image k → IsFormatted image × IsDamaged image l → Damaged k ≡ Damaged l
  same_line k l a b =
      let same : replays.Damaged k ≡ replays.Damaged l = replay_law image (replays.Damaged k) (replays.Damaged l) a b in
      let lines : k ≡ l = cc in
      ap Damaged lines

  -- one word is the first wrong one
  same_word : (v w : ℕ) → IsNoDatabase v image → IsNoDatabase w image → NotDb v ≡ NotDb w
  same_word v w a b =
      let arrays = (same_replay a.number b.number a.array b.array a.recovered b.recovered).1 in
      ap NotDb (one_word (sizes_of image) b.array v w (subst (λ (l : List ℕ). IsNotDb (sizes_of image) l v) arrays a.wrong).first b.wrong.first)

  -- an array that is no database stands for none
  not_both : (w n : ℕ) (s : Sizes) (db : Database) → IsNoDatabase w image → RecoversTo image n s db → ⊥
  not_both w n s db a b =
      let arrays = (same_replay a.number n a.array b.array a.recovered b.recovered).1 in
      a.wrong.unlawful (db, subst (λ (l : List ℕ). StandsFor (sizes_of image) l db) (sym arrays) (subst (λ (s : Sizes). StandsFor s b.array db) (sym b.same_sizes) b.stands))

  -- one database
  pub same_recovered : (n m : ℕ) (s t : Sizes) (db other : Database) → RecoversTo image n s db → RecoversTo image m t other → Recovered n s db ≡ Recovered m t other
  same_recovered n m s t db other a b =
      let both = same_replay n m a.array b.array a.recovered b.recovered in
      let numbers : n ≡ m = both.0 in
      let sizes : s ≡ t = sym a.same_sizes ∙ b.same_sizes in
      let databases : db ≡ other = one_database t b.array db other (subst (λ (l : List ℕ). StandsFor t l db) both.1 (subst (λ (s : Sizes). StandsFor s a.array db) sizes a.stands)) b.stands in
      cc

pub one_recovery_law : LawOfOneRecovery
one_recovery_law image Unformatted Unformatted a b = refl
one_recovery_law image Unformatted (Damaged l) a b = absurd (a b.0)
one_recovery_law image Unformatted (NotDb w) a b = absurd (a b.recovered.formatted)
one_recovery_law image Unformatted (Recovered m t other) a b = absurd (a b.recovered.formatted)
one_recovery_law image (Damaged k) Unformatted a b = absurd (b a.0)
one_recovery_law image (Damaged k) (Damaged l) a b = same_line image k l a b
one_recovery_law image (Damaged k) (NotDb w) a b = absurd (undamaged image b.number k b.array b.recovered a)
one_recovery_law image (Damaged k) (Recovered m t other) a b = absurd (undamaged image m k b.array b.recovered a)
one_recovery_law image (NotDb v) Unformatted a b = absurd (b a.recovered.formatted)
one_recovery_law image (NotDb v) (Damaged l) a b = absurd (undamaged image a.number l a.array a.recovered b)
one_recovery_law image (NotDb v) (NotDb w) a b = same_word image v w a b
one_recovery_law image (NotDb v) (Recovered m t other) a b = absurd (not_both image v m t other a b)
one_recovery_law image (Recovered n s db) Unformatted a b = absurd (b a.recovered.formatted)
one_recovery_law image (Recovered n s db) (Damaged l) a b = absurd (undamaged image n l a.array a.recovered b)
one_recovery_law image (Recovered n s db) (NotDb w) a b = absurd (not_both image w n s db b a)
one_recovery_law image (Recovered n s db) (Recovered m t other) a b = same_recovered image n m s t db other a b
