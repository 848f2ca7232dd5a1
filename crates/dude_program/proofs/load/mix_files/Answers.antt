use Rattle.std.proofs.Common.{rules, ◌≡◌, ◌∙◌, ◌<◌, ◌≤◌, ℕ, List, [], ◌∷◌, length, map, get_or, arith, Vec, Global}
use Rattle.std.specs.List.{All, range_with_len}
use Rattle.std.proofs.lemmas.List.{get_or-map, length-map}
use Rattle.std.proofs.lemmas.List.Elements.{All-get_or, All-map}
use Rattle.std.proofs.lemmas.List.FromFn.{fill_by_all}
use Rattle.tatp_model.specs.declared.request.Request.{Request}
use Rattle.tatp_model.specs.Files.{requests_in}
use Rattle.tatp_model.specs.Request.{IsInRange}
use Rattle.tatp_text.specs.Load.{mixed}
use Rattle.dude_program.proofs.load.mix_files.Goals as goal

-- the lists are those of the load, where each is the list of its file
each_mixed : (f : ℕ → List Request) (lists : List (Vec Request Global)) (n : ℕ) → length lists ≡ n
    → ((i : ℕ) (d : Vec Request Global) → i < n → (get_or lists i d).items ≡ f i) → requests_in lists ≡ map f (range_with_len 0 n)
each_mixed f [] n long each = fill_by_all f [] n [] long (λ i below. absurd (omega (arith, below, long)))
each_mixed f (list ∷ lists) n long each =
    let all : List (Vec Request Global) = list ∷ lists in
    fill_by_all f (requests_in all) n [] (length-map all (λ l. l.items) ∙ long)
    (λ i below. get_or-map (λ l. l.items) all i list [] (omega (arith, below, long)) ∙ each i list below)

-- there are as many lists as files
as_long : (g : _) (c : goal.Else-not-are_made g) → length c.in_ok-lists.lists.items ≡ c.args.load.now.files
as_long g c = search rules

-- and each has a request
have_one : (g : _) (c : goal.Else-not-are_made g) → All (λ (list : Vec Request Global). 0 < length list.items) c.in_ok-lists.lists.items
have_one g c = search rules

pub returns-clause-load : goal.returns-clause-load
returns-clause-load g c =
    let load = c.args.load.now in
    let lists = c.in_ok-lists.lists.items in
    each_mixed (λ file. mixed load.seed file load.files c.args.subscribers load.count) lists load.files (as_long g c)
    (λ i d below.
    let called = (c.in_ok-lists.ensures.each i d below).1.met in
    let one : 0 < length (get_or lists i d).items = All-get_or (λ list. 0 < length list.items) lists i d (omega (arith, below, as_long g c)) (have_one g c) in
    search rules)

pub returns-clause-few : goal.returns-clause-few
returns-clause-few g c =
    All-map (λ list. length list ≤ 100000) (λ list. list.items) c.in_ok-lists.lists.items
    (λ i d below. let called = (c.in_ok-lists.ensures.each i d (omega (arith, below, as_long g c))).1.met in search rules)

pub returns-clause-in_range : goal.returns-clause-in_range
returns-clause-in_range g c =
    All-map (All IsInRange) (λ list. list.items) c.in_ok-lists.lists.items
    (λ i d below. let called = (c.in_ok-lists.ensures.each i d (omega (arith, below, as_long g c))).1.met in search rules)
