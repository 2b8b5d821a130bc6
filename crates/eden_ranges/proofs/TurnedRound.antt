-- What a walk from the newest delta back has gathered, turned round, is what the deltas say.
use Rattle.std.proofs.Common.{◌≡◌, ℕ, List, [], ◌∷◌, ◌++◌, map, reverse, refl, sym, ap, ◌∙◌, append_assoc, append-nil}
use Rattle.std.specs.List.{flat_map}
use Rattle.std.proofs.lemmas.List.{map-append, reverse-append, reverse-reverse}
use Rattle.eden_journal.specs.declared.file_touch.FileTouch.{FileTouch}
use Rattle.eden_journal.specs.FilesChanged.{touches_of, prefixes_of}
use Rattle.eden_journal.specs.declared.delta.Delta.{Delta}
use Rattle.eden_journal.specs.declared.delta.Delta.TheVariants.{File, Root}
use Rattle.eden_history.specs.Said.{Said, by_root, by_touch, ends_at, joined, paths_said}
use Rattle.eden_history.proofs.Ends.{ends_at-append, ends_at-roots, joined-none}
use Rattle.eden_ranges.specs.Gathered.{left_by, prefixes_in, said_by, unclean_in}
use Rattle.eden_ranges.specs.internal.Gathering.{Gathering, nothing_gathered, with_all, with_older}
use Rattle.eden_history.proofs.Saying.{rooted-names}

-- what changes of files say, oldest first
abbrev files_by : List Delta → List Said
files_by [] = []
files_by (File files ∷ older) = files_by older ++ map by_touch (touches_of files)
files_by (Root left unclean before ∷ older) = files_by older

-- the touches of all of them, oldest first
abbrev pub touches_by : List Delta → List FileTouch
touches_by [] = []
touches_by (File files ∷ older) = touches_by older ++ touches_of files
touches_by (Root left unclean before ∷ older) = touches_by older

files-touched : (ds : List Delta) → files_by ds ≡ map by_touch (touches_by ds)
files-touched [] = refl
files-touched (File files ∷ older) = ap (λ list. list ++ map by_touch (touches_of files)) (files-touched older) ∙ sym (map-append by_touch (touches_by older) (touches_of files))
files-touched (Root left unclean before ∷ older) = files-touched older

touches-all : (g : Gathering) (ds : List Delta) → reverse (with_all g ds).touches ≡ files_by ds ++ reverse g.touches
touches-all g [] = refl
touches-all g (File files ∷ older) =
    touches-all (with_older g (File files)) older
    ∙ ap (λ list. files_by older ++ list) (reverse-append g.touches (reverse (map by_touch (touches_of files)))
    ∙ ap (λ list. list ++ reverse g.touches) (reverse-reverse (map by_touch (touches_of files))))
    ∙ sym (append_assoc (files_by older) (map by_touch (touches_of files)) (reverse g.touches))
touches-all g (Root left unclean before ∷ older) = touches-all (with_older g (Root left unclean before)) older

unclean-all : (g : Gathering) (ds : List Delta) → (with_all g ds).unclean ≡ g.unclean ++ map by_root (flat_map unclean_in ds)
unclean-all g [] = sym (append-nil g.unclean)
unclean-all g (File files ∷ older) = unclean-all (with_older g (File files)) older
unclean-all g (Root left unclean before ∷ older) =
    unclean-all (with_older g (Root left unclean before)) older
    ∙ append_assoc g.unclean (map by_root unclean) (map by_root (flat_map unclean_in older))
    ∙ ap (λ list. g.unclean ++ list) (sym (map-append by_root unclean (flat_map unclean_in older)))

prefixes-all : (g : Gathering) (ds : List Delta) → paths_said (with_all g ds).prefixes ≡ paths_said g.prefixes ++ flat_map prefixes_in ds
prefixes-all g [] = sym (append-nil (paths_said g.prefixes))
prefixes-all g (File files ∷ older) =
    prefixes-all (with_older g (File files)) older
    ∙ ap (λ ps. ps ++ flat_map prefixes_in older)
    (map-append (λ one. one.0) g.prefixes (map by_root (prefixes_of files)) ∙ ap (λ ps. paths_said g.prefixes ++ ps) (rooted-names (prefixes_of files)))
    ∙ append_assoc (paths_said g.prefixes) (prefixes_of files) (flat_map prefixes_in older)
prefixes-all g (Root left unclean before ∷ older) = prefixes-all (with_older g (Root left unclean before)) older

lefts-all : (g : Gathering) (ds : List Delta) → reverse (with_all g ds).lefts ≡ left_by ds ++ reverse g.lefts
unfolding left_by
lefts-all g [] = refl
lefts-all g (File files ∷ older) = lefts-all (with_older g (File files)) older
lefts-all g (Root left unclean before ∷ older) =
    lefts-all (with_older g (Root left unclean before)) older
    ∙ ap (λ ids. left_by older ++ ids) (reverse-append g.lefts (left ∷ []))
    ∙ sym (append_assoc (left_by older) (left ∷ []) (reverse g.lefts))

-- what the root says changes no touch
files-said : (q : List ℕ) (ds : List Delta) → ends_at q (files_by ds) ≡ ends_at q (said_by ds)
files-said q [] = refl
files-said q (File files ∷ older) =
    ends_at-append q (files_by older) (map by_touch (touches_of files))
    ∙ ap (λ o. joined o (ends_at q (map by_touch (touches_of files)))) (files-said q older)
    ∙ sym (ends_at-append q (said_by older) (map by_touch (touches_of files)))
files-said q (Root left unclean before ∷ older) =
    files-said q older
    ∙ sym (ends_at-append q (said_by older) (map by_root unclean) ∙ ap (joined (ends_at q (said_by older))) (ends_at-roots q unclean) ∙ joined-none (ends_at q (said_by older)))

-- ---- from nothing

pub touches_gathered : (ds : List Delta) (q : List ℕ) → ends_at q (reverse (with_all nothing_gathered ds).touches) ≡ ends_at q (said_by ds)
touches_gathered ds q = ap (ends_at q) (touches-all nothing_gathered ds ∙ append-nil (files_by ds)) ∙ files-said q ds

-- the changes of files, oldest first
pub touches_are : (ds : List Delta) → reverse (with_all nothing_gathered ds).touches ≡ map by_touch (touches_by ds)
touches_are ds = touches-all nothing_gathered ds ∙ append-nil (files_by ds) ∙ files-touched ds

pub unclean_are : (ds : List Delta) → (with_all nothing_gathered ds).unclean ≡ map by_root (flat_map unclean_in ds)
unclean_are ds = unclean-all nothing_gathered ds

pub prefixes_gathered : (ds : List Delta) → paths_said (with_all nothing_gathered ds).prefixes ≡ flat_map prefixes_in ds
prefixes_gathered ds = prefixes-all nothing_gathered ds

pub unclean_gathered : (ds : List Delta) → paths_said (with_all nothing_gathered ds).unclean ≡ flat_map unclean_in ds
unclean_gathered ds = ap paths_said (unclean-all nothing_gathered ds) ∙ rooted-names (flat_map unclean_in ds)

pub lefts_gathered : (ds : List Delta) → reverse (with_all nothing_gathered ds).lefts ≡ left_by ds
lefts_gathered ds = lefts-all nothing_gathered ds ∙ append-nil (left_by ds)
