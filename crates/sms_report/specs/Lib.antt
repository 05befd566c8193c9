pub mod VolumesTable
