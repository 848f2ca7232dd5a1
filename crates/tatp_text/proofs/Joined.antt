-- Lemmas on texts with commas between.
use Rattle.std.proofs.Common.{ℕ, ◌≡◌, ◌+◌, ◌<◌, ◌≤◌, List, [], ◌∷◌, ◌++◌, length, take, get_or, map, sym, ap, ◌∙◌, append-nil, append_assoc}
use Rattle.std.specs.Prelude.{decimal, Result, Ok, Err, OnOk, is_ok, if◌then◌else◌}
use Rattle.std.specs.List.{flat_map, join_with_byte}
use Rattle.std.proofs.lemmas.List.{take_all, take_more, map_more, flat_map_more}
use Rattle.std.proofs.lemmas.List.Concat.{flat_map-append}
use Rattle.tatp_model.specs.declared.sub_row.SubRow.{SubRow}
use Rattle.tatp_text.specs.Number.{phone_text}
use Rattle.tatp_text.specs.Reply.{row_fields}

-- what was appended, where there was memory
pub written_where_ok : {T E : Type 0} (r : Result T E) (new appended old items : List ℕ) → new ≡ (if is_ok r then appended else old) → appended ≡ items → OnOk r (new ≡ items)
written_where_ok (Ok x) new appended old items is same = is ∙ same
written_where_ok (Err e) new appended old items is same = tt

-- one text more behind a comma, as a loop appends them
pub texts_more : (f : ℕ → List ℕ) (xs : List ℕ) (i : ℕ) (before so_far comma after : List ℕ) (x : ℕ) → i < length xs → so_far ≡ before ++ flat_map (λ n. 44 ∷ f n) (take i xs) → comma ≡ so_far ++ 44 ∷ [] → x ≡ get_or xs i 0 → after ≡ comma ++ f x → after ≡ before ++ flat_map (λ n. 44 ∷ f n) (take (i + 1) xs)
texts_more f xs i before so_far comma after x lt so_far_is comma_is x_is after_is =
    let whole = append_assoc (before ++ flat_map (λ n. 44 ∷ f n) (take i xs)) (44 ∷ []) (f (get_or xs i 0)) in
    rw (take_more xs i 0 lt, after_is, comma_is, so_far_is, x_is) (whole ∙ flat_map_more (λ n. 44 ∷ f n) before (take i xs) (get_or xs i 0))

-- and all texts, behind the loop
pub texts_all : (f : ℕ → List ℕ) (xs : List ℕ) (i : ℕ) (before after : List ℕ) → length xs ≤ i → after ≡ before ++ flat_map (λ n. 44 ∷ f n) (take i xs) → after ≡ before ++ flat_map (λ n. 44 ∷ f n) xs
texts_all f xs i before after all after_is = after_is ∙ ap (λ (l : List ℕ). before ++ flat_map (λ n. 44 ∷ f n) l) (take_all i xs all)

-- one number more as a field, as a loop adds them
pub numbers_more : (xs : List ℕ) (i : ℕ) (before so_far after : List (List ℕ)) (x : ℕ) → i < length xs → so_far ≡ before ++ map decimal (take i xs) → x ≡ get_or xs i 0 → after ≡ so_far ++ decimal x ∷ [] → after ≡ before ++ map decimal (take (i + 1) xs)
numbers_more xs i before so_far after x lt so_far_is x_is after_is =
    rw (map_more decimal xs i 0 lt, after_is, so_far_is, x_is) (append_assoc before (map decimal (take i xs)) (decimal (get_or xs i 0) ∷ []))

-- and all numbers, behind the loop
pub numbers_all : (xs : List ℕ) (i : ℕ) (before after : List (List ℕ)) → length xs ≤ i → after ≡ before ++ map decimal (take i xs) → after ≡ before ++ map decimal xs
numbers_all xs i before after all after_is = after_is ∙ ap (λ (l : List ℕ). before ++ map decimal l) (take_all i xs all)

-- the first text, and then each other behind the byte
pub join_with_byte-first : (c : ℕ) (first : List ℕ) (others : List (List ℕ)) → join_with_byte c (first ∷ others) ≡ first ++ flat_map (λ other. c ∷ other) others
join_with_byte-first c first [] = sym (append-nil first)
join_with_byte-first c first (other ∷ others) = ap (λ text. first ++ (c ∷ text)) (join_with_byte-first c other others)

-- so of the texts of numbers
pub join_with_byte-map : (c : ℕ) (f : ℕ → List ℕ) (first : List ℕ) (xs : List ℕ) → join_with_byte c (first ∷ map f xs) ≡ first ++ flat_map (λ n. c ∷ f n) xs
join_with_byte-map c f first [] = sym (append-nil first)
join_with_byte-map c f first (x ∷ xs) = ap (λ text. first ++ (c ∷ text)) (join_with_byte-map c f (f x) xs)

-- eight texts, one appended behind the other
pub eight_texts : (s a b c d e f g h s1 s2 s3 s4 s5 s6 s7 : List ℕ) → s1 ≡ s ++ a → s2 ≡ s1 ++ b → s3 ≡ s2 ++ c → s4 ≡ s3 ++ d → s5 ≡ s4 ++ e → s6 ≡ s5 ++ f → s7 ≡ s6 ++ g → s7 ++ h ≡ s ++ (a ++ b ++ c ++ d ++ e ++ f ++ g ++ h)
eight_texts s a b c d e f g h s1 s2 s3 s4 s5 s6 s7 is1 is2 is3 is4 is5 is6 is7 = rw (is7, is6, is5, is4, is3, is2, is1) (simp append_assoc)

-- phone numbers with commas between, as a loop appends them
pub phones_after : (before between after : List ℕ) (first : ℕ) (others numbers : List ℕ) (i : ℕ) → numbers ≡ first ∷ others → between ≡ before ++ phone_text first → length others ≤ i → after ≡ between ++ flat_map (λ n. 44 ∷ phone_text n) (take i others) → after ≡ before ++ join_with_byte 44 (map phone_text numbers)
phones_after before between after first others numbers i split between_is all after_is =
    let whole : take i others ≡ others = take_all i others all in
    let joined = join_with_byte-map 44 phone_text (phone_text first) others in
    rw (split, joined, after_is, between_is, whole) (append_assoc before (phone_text first) (flat_map (λ n. 44 ∷ phone_text n) others))

-- numbers, each behind a comma
abbrev pub more_text : List ℕ → List ℕ
more_text numbers = flat_map (λ n. 44 ∷ decimal n) numbers

more_text-append : (a b c d : List ℕ) → more_text (a ++ b ++ c ++ d) ≡ more_text a ++ (more_text b ++ (more_text c ++ more_text d))
more_text-append a b c d = simp (flat_map-append, append_assoc)

-- the fields of a row, as they are appended
abbrev pub row_text : SubRow → List ℕ
row_text row =
    decimal row.s_id ++ (44 ∷ (phone_text row.sub_nbr ++ (more_text row.bits ++ (more_text row.hexes ++ (more_text row.bytes ++ (44 ∷ (decimal row.msc ++ (44 ∷ decimal row.vlr))))))))

pub join_with_byte-row_fields : (row : SubRow) → join_with_byte 44 (row_fields row) ≡ row_text row
join_with_byte-row_fields row =
    let last : more_text (row.msc ∷ row.vlr ∷ []) ≡ 44 ∷ (decimal row.msc ++ (44 ∷ decimal row.vlr)) = simp append-nil in
    let numbers = row.bits ++ row.hexes ++ row.bytes ++ row.msc ∷ row.vlr ∷ [] in
    let joined = join_with_byte-map 44 decimal (phone_text row.sub_nbr) numbers in
    let parts = more_text-append row.bits row.hexes row.bytes (row.msc ∷ row.vlr ∷ []) in
    ap (λ text. decimal row.s_id ++ (44 ∷ text)) (joined ∙ ap (λ text. phone_text row.sub_nbr ++ text) (rw (parts, last)))
