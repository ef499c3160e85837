pub mod HalfEdge
pub mod Corner
pub mod Table
pub mod Model
pub mod Sound
pub use Rattle.lattice.specs.Point as Points
pub use Rattle.lattice.specs.Ranges
pub use Rattle.lattice.specs.Vectors
pub use Rattle.cyclic_list.specs.Edits
pub use Rattle.cyclic_list.specs.Items
pub use Rattle.cyclic_list.specs.Operators
pub use Rattle.cyclic_list.specs.Rings
