pub mod RoleTags
