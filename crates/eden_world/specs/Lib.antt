pub use Rattle.eden_globs.specs.Filters
pub use Rattle.eden_objects.specs.Commits
pub mod internal
