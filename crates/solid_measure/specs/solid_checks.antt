pub use Rattle.solid_walks.specs.Least
