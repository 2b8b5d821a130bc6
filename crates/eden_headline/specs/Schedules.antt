-- A schedule: what happens to a mount, to mirrors of it and to the messages between them,
-- one step after another. Nothing orders the steps: requests are served late, twice or
-- never, and replies come late, twice, to any mirror or never. A message is lost if no
-- later step takes it.
use Rattle.std.specs.Prelude.{◌≡◌, ◌≢◌, ◌<◌, ℕ, ◌==◌, if◌then◌else◌, List, [], ◌∷◌, ◌++◌, Contains, Option, Some, None, IsSome}
use Rattle.std.specs.Option.{option_map}
use Rattle.eden_ids.specs.declared.id.Id.{Id}
use Rattle.eden_ids.specs.FileMaps.{FileMap}
use Rattle.eden_globs.specs.Filters.{Patterns}
use Rattle.eden_objects.specs.Objects.{Held}
use Rattle.eden_objects.specs.Commits.{commit_map}
use Rattle.eden_history.specs.declared.change.Change.{Change}
use Rattle.eden_history.specs.declared.change.Change.TheVariants.{Import}
use Rattle.eden_messages.specs.declared.message.Reply.{Reply}
use Rattle.eden_messages.specs.declared.message.Request.{Request}
use Rattle.eden_history.specs.Worlds.{WorldState, commits_of}
use Rattle.eden_history.specs.Legal.{IsLegal}
use Rattle.eden_history.specs.Imports.{over_held}
use Rattle.eden_history.specs.Outcome.{row_after}
use Rattle.eden_messages.specs.Replies.{reply_of}
use Rattle.eden_messages.specs.Mirrors.{MirrorState, new_mirror, begun, outstanding_of, delivered, refiltered, query_of}

-- the mirrors, each under its id
abbrev pub Mirrors : Type 0
Mirrors = ℕ → Option MirrorState

-- a world, all requests and all replies that were ever sent, and the mirrors
pub record Scene : Type 0 where
  pub world : WorldState
  pub sent : List Request
  pub replies : List Reply
  pub mirrors : Mirrors

-- ---- what may happen

pub data Step : Type 0 where
  -- the mount is changed, or refuses the change; an import is a step `Grows`
  Changes : Change → Step
  -- the mount's store has these objects now, and each commit keeps its files
  Grows : (held : List Held) → Step
  -- the mirror with this id begins a round
  Begins : (id : ℕ) → Step
  -- it sends all that is outstanding in its round, for the first time or again
  Sends : (id : ℕ) → Step
  -- the mount answers a request
  Serves : Request → Step
  -- a reply comes to the mirror with this id
  Comes : Reply → (id : ℕ) → Step
  -- the mirror gets another filter
  Refilters : (id : ℕ) → (patterns : Patterns) → Step
  -- the mirror starts again, with nothing but a life and a filter
  Restarts : (id : ℕ) → (life : ℕ) → (patterns : Patterns) → Step
  -- a client that is not a mirror sends a request
  Strange : Request → Step
  -- something is refused because memory ran out
  Nothing : Step

-- the mirrors after the one with this id has moved
abbrev pub moved : Mirrors → ℕ → (MirrorState → MirrorState) → Mirrors
moved mirrors id move other = if other == id then option_map move (mirrors other) else mirrors other

-- what a mirror asks, if it exists
abbrev pub asked_by : Option MirrorState → List Request
asked_by None = []
asked_by (Some m) = outstanding_of m

-- the scene after a step
unfoldable pub happens : Scene → Step → Scene
happens s (Changes change) = record s { world = row_after s.world change }
happens s (Grows held) = record s { world = over_held s.world held }
happens s (Begins id) = record s { mirrors = moved s.mirrors id begun }
happens s (Sends id) = record s { sent = s.sent ++ asked_by (s.mirrors id) }
happens s (Serves request) = record s { replies = s.replies ++ reply_of s.world request ∷ [] }
happens s (Comes reply id) = record s { mirrors = moved s.mirrors id (λ m. (delivered m reply).0) }
happens s (Refilters id patterns) = record s { mirrors = moved s.mirrors id (λ m. refiltered m patterns) }
happens s (Restarts id life patterns) = record s { mirrors = moved s.mirrors id (λ m. new_mirror m.id life patterns) }
happens s (Strange request) = record s { sent = s.sent ++ request ∷ [] }
happens s Nothing = s

-- ---- when it may

-- a life above that of the mirror, under which nothing was sent
pub record IsNewLife (s : Scene) (id : ℕ) (life : ℕ) : Type 0 where
  pub above : (m : MirrorState) → s.mirrors id ≡ Some m → m.life < life
  pub unused : (request : Request) → Contains s.sent request → (query_of request).mirror ≡ id → (query_of request).life ≢ life

-- the request is not under the id and life of a mirror
abbrev pub IsStrange : Scene → Request → Type 0
IsStrange s request = (m : MirrorState) → s.mirrors (query_of request).mirror ≡ Some m → m.life ≢ (query_of request).life

-- each commit keeps its files
abbrev pub CommitsStay : List Held → List Held → Type 0
CommitsStay held more = (commit : Id) (files : FileMap) → commit_map held commit ≡ Some files → commit_map more commit ≡ Some files

-- a change is no import; only what was sent is served, and only what was replied comes
abbrev pub MayHappen : Scene → Step → Type 0
MayHappen s (Changes (Import objects)) = ⊥
MayHappen s (Grows held) = CommitsStay s.world.held held
MayHappen s (Serves request) = Contains s.sent request
MayHappen s (Comes reply id) = Contains s.replies reply
MayHappen s (Restarts id life patterns) = IsNewLife s id life
MayHappen s (Strange request) = IsStrange s request
MayHappen s step = Unit {0}

-- each step may happen at its place
abbrev pub IsSchedule : Scene → List Step → Type 0
IsSchedule s [] = Unit {0}
IsSchedule s (step ∷ steps) = MayHappen s step × IsSchedule (happens s step) steps

abbrev pub run_schedule : Scene → List Step → Scene
run_schedule s [] = s
run_schedule s (step ∷ steps) = run_schedule (happens s step) steps

-- ---- beginnings

-- a world whose history is legal so far and opened on a commit, mirrors that are new, each
-- under its own id, and nothing sent
pub record IsFresh (s : Scene) : Type 0 where
  pub legal : IsLegal s.world
  pub begins : IsSome (commits_of s.world s.world.opening.root)
  pub sent : s.sent ≡ []
  pub replies : s.replies ≡ []
  pub mirrors : (id : ℕ) (m : MirrorState) → s.mirrors id ≡ Some m → m ≡ new_mirror id m.life m.patterns

-- after every schedule from a fresh beginning
abbrev pub OnFreshRuns : (Scene → Type 0) → Type 0
OnFreshRuns Holds = (s : Scene) (steps : List Step) → IsFresh s → IsSchedule s steps → Holds (run_schedule s steps)
